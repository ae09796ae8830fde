-- Exchanges stay such as can be asked, as they are left, as they end, as their place is taken away, and as more of them is asked.
use Rattle.std.proofs.Common.{◌≡◌, refl, sym, subst, ◌∙◌, ℕ, Bool, true, false, cond, find, nat_lt, List, [], ◌∷◌, Option, Some, None}
use Rattle.pp_flow.specs.Changes.{Exchanges, changed, entered, entry_of, first_of, unplaced, with_errand, without}
use Rattle.pp_flow.specs.Entries.{asking, is_number, nobodys, with_place}
use Rattle.pp_flow.specs.declared.entry.Entry.{Entry}
use Rattle.pp_flow.specs.declared.errand.Errand.{Errand}
use Rattle.pp_target.specs.Key.{IsPlaceIn}
use Rattle.pp_joints_law.proofs.Asks.{Can, change_first, found_any, none_any}
use Rattle.pp_places_law.proofs.Entries.{askable_found, askable_without}
use Rattle.pp_places_law.specs.Around.{AreAskable, IsAskable}

pub all_changed : (n : ℕ) (f : Entry → Entry) (xs : List Entry) → ((x : Entry) → IsAskable x → IsAskable (f x)) → AreAskable xs → AreAskable (changed n f xs)
all_changed n f [] each all = tt
all_changed n f (x ∷ xs) each all = by (is_number n x) (all_changed n f xs each all.1)
  where
    by : (b : Bool) → AreAskable (changed n f xs) → AreAskable (cond b (f x ∷ xs) (x ∷ changed n f xs))
    by true rest = (each x all.0, all.1)
    by false rest = (all.0, rest)

nobodys_can : (x : Entry) → IsAskable x → IsAskable (nobodys x)
nobodys_can x ask = record { place = ask.place; short = ask.short }

pub can_left : (n : ℕ) (f : Exchanges) → Can f → Can (record f { waiting = changed n nobodys f.waiting; placed = changed n nobodys f.placed })
can_left n f can = (all_changed n nobodys f.waiting nobodys_can can.0, all_changed n nobodys f.placed nobodys_can can.1)

pub can_end : (n : ℕ) (f : Exchanges) → Can f → Can (record f { waiting = without n f.waiting; placed = without n f.placed })
can_end n f can = (askable_without n f.waiting can.0, askable_without n f.placed can.1)

-- ---- its place is taken away

come_in : (e : Entry) (xs : List Entry) → IsAskable e → AreAskable xs → AreAskable (entered e xs)
come_in e [] one all = (one, tt)
come_in e (x ∷ xs) one all = by (nat_lt e.exchange.number x.exchange.number) (come_in e xs one all.1)
  where
    by : (b : Bool) → AreAskable (entered e xs) → AreAskable (cond b (e ∷ x ∷ xs) (x ∷ entered e xs))
    by true rest = (one, all)
    by false rest = (all.0, rest)

pub can_unplaced : (n : ℕ) (f : Exchanges) → Can f → Can (unplaced n f)
can_unplaced n f can = by (find (is_number n) f.placed) refl
  where
    by : (o : Option Entry) → find (is_number n) f.placed ≡ o → Can (elim o as (λ t. Exchanges) [ None ↦ f | Some e ↦ record f { waiting = entered (with_place None e) f.waiting; placed = without n f.placed } ])
    by None is = can
    by (Some e) is =
        let one : IsAskable e = askable_found (is_number n) f.placed e is can.1 in
        (come_in (with_place None e) f.waiting (record { place = one.place; short = one.short }) can.0, askable_without n f.placed can.1)

-- ---- more of it is asked

-- of the same place
asks_so : (x : Entry) (errand : Errand) → errand.place ≡ x.errand.place → IsAskable x → IsAskable (asking errand x)
asks_so x errand same ask = record { place = subst (λ p. IsPlaceIn x.key.items p) (sym same) ask.place; short = ask.short }

pub can_errand : (n : ℕ) (errand : Errand) (f : Exchanges) (x : Entry) → entry_of n f ≡ Some x → errand.place ≡ x.errand.place → Can f → Can (with_errand n errand f)
can_errand n errand f x here same can = by (find (is_number n) f.waiting) (find (is_number n) f.placed) refl refl here
  where
    chosen : (b : Bool) → Exchanges
    chosen b = cond b (record f { waiting = changed n (asking errand) f.waiting }) (record f { placed = changed n (asking errand) f.placed })

    by : (a b : Option Entry) → find (is_number n) f.waiting ≡ a → find (is_number n) f.placed ≡ b → first_of a b ≡ Some x → Can (with_errand n errand f)
    by (Some y) b one other is =
        let found : find (is_number n) f.waiting ≡ Some x = one ∙ is in
        subst (λ (t : Bool). Can (chosen t)) (sym (found_any n f.waiting x found)) (change_first n (asking errand) f.waiting x found (asks_so x errand same (askable_found (is_number n) f.waiting x found can.0)) can.0, can.1)
    by None b one other is =
        let found : find (is_number n) f.placed ≡ Some x = other ∙ is in
        subst (λ (t : Bool). Can (chosen t)) (sym (none_any n f.waiting one)) (can.0, change_first n (asking errand) f.placed x found (asks_so x errand same (askable_found (is_number n) f.placed x found can.1)) can.1)
