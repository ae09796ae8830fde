-- At a wait exchanges stay such as can be asked: how far a body is wanted is no part of that.
use Rattle.std.proofs.Common.{◌≡◌, refl, sym, subst, ℕ, Bool, true, false, ◌||◌, cond, find, List, [], ◌∷◌, ◌++◌, Option, Some, None}
use Rattle.std.specs.List.{fold, list_any}
use Rattle.pp_flow.specs.Changes.{Exchanges, changed, entry_of, first_of, numbers, with_errand}
use Rattle.pp_flow.specs.Entries.{asking, is_number}
use Rattle.pp_flow.specs.declared.entry.Entry.{Entry}
use Rattle.pp_flow.specs.declared.errand.Body.{Body}
use Rattle.pp_flow.specs.declared.errand.Body.TheVariants.{Joining}
use Rattle.pp_places_law.proofs.Entries.{askable_found}
use Rattle.pp_places_law.specs.Around.{AreAskable, IsAskable}
use Rattle.pp_seats.specs.declared.seat.Seat.{Seat}
use Rattle.pp_state.specs.Unseen.{all_rested, body_noted, bound_of, rested, rested_to, wanted_of}

abbrev pub Can : Exchanges → Type 0
Can f = AreAskable f.waiting × AreAskable f.placed

-- ---- one is changed

pub change_first : (n : ℕ) (g : Entry → Entry) (xs : List Entry) (x : Entry) → find (is_number n) xs ≡ Some x → IsAskable (g x) → AreAskable xs → AreAskable (changed n g xs)
change_first n g [] x found one all = tt
change_first n g (y ∷ ys) x found one all = by (is_number n y) found (λ later. change_first n g ys x later one all.1)
  where
    same : Some y ≡ Some x → y ≡ x
    same is = cc is

    by : (b : Bool) → cond b (Some y) (find (is_number n) ys) ≡ Some x → (find (is_number n) ys ≡ Some x → AreAskable (changed n g ys)) → AreAskable (cond b (g y ∷ ys) (y ∷ changed n g ys))
    by true is rest = (subst (λ (z : Entry). IsAskable (g z)) (sym (same is)) one, all.1)
    by false is rest = (all.0, rest is)

pub found_any : (n : ℕ) (xs : List Entry) (x : Entry) → find (is_number n) xs ≡ Some x → list_any (is_number n) xs ≡ true
found_any n [] x found = absurd (cc found)
found_any n (y ∷ ys) x found = by (is_number n y) found (λ later. found_any n ys x later)
  where
    by : (b : Bool) → cond b (Some y) (find (is_number n) ys) ≡ Some x → (find (is_number n) ys ≡ Some x → list_any (is_number n) ys ≡ true) → (b || list_any (is_number n) ys) ≡ true
    by true is rest = refl
    by false is rest = rest is

pub none_any : (n : ℕ) (xs : List Entry) → find (is_number n) xs ≡ None → list_any (is_number n) xs ≡ false
none_any n [] none = refl
none_any n (y ∷ ys) none = by (is_number n y) none (λ later. none_any n ys later)
  where
    by : (b : Bool) → cond b (Some y) (find (is_number n) ys) ≡ None → (find (is_number n) ys ≡ None → list_any (is_number n) ys ≡ false) → (b || list_any (is_number n) ys) ≡ false
    by true is rest = absurd (cc is)
    by false is rest = rest is

body_askable : (body : Body) (x : Entry) → IsAskable x → IsAskable (asking (record x.errand { body = body }) x)
body_askable body x ask = record { place = ask.place; short = ask.short }

noted_can : (n : ℕ) (body : Body) (f : Exchanges) → Can f → Can (body_noted (entry_of n f) n body f)
noted_can n body f can = by (find (is_number n) f.waiting) (find (is_number n) f.placed) refl refl
  where
    chosen : (b : Bool) (x : Entry) → Exchanges
    chosen b x = cond b (record f { waiting = changed n (asking (record x.errand { body = body })) f.waiting }) (record f { placed = changed n (asking (record x.errand { body = body })) f.placed })

    waits : (x : Entry) → find (is_number n) f.waiting ≡ Some x → Can (with_errand n (record x.errand { body = body }) f)
    waits x found =
        subst (λ (b : Bool). Can (chosen b x)) (sym (found_any n f.waiting x found))
        (change_first n (asking (record x.errand { body = body })) f.waiting x found (body_askable body x (askable_found (is_number n) f.waiting x found can.0)) can.0, can.1)

    stands : (x : Entry) → find (is_number n) f.waiting ≡ None → find (is_number n) f.placed ≡ Some x → Can (with_errand n (record x.errand { body = body }) f)
    stands x none found =
        subst (λ (b : Bool). Can (chosen b x)) (sym (none_any n f.waiting none))
        (can.0, change_first n (asking (record x.errand { body = body })) f.placed x found (body_askable body x (askable_found (is_number n) f.placed x found can.1)) can.1)

    by : (a b : Option Entry) → find (is_number n) f.waiting ≡ a → find (is_number n) f.placed ≡ b → Can (body_noted (first_of a b) n body f)
    by (Some x) b one other = waits x one
    by None (Some x) one other = stands x one other
    by None None one other = can

-- ---- and all

to_can : (o : Option ℕ) (n : ℕ) (f : Exchanges) → Can f → Can (rested_to o n f)
to_can None n f can = can
to_can (Some at) n f can = noted_can n (Joining at) f can

each_can : (awake : List ℕ) (seats : List Seat) (ns : List ℕ) (f : Exchanges) → Can f → Can (fold (rested awake seats) f ns)
each_can awake seats [] f can = can
each_can awake seats (n ∷ ns) f can = each_can awake seats ns (rested awake seats f n) (to_can (wanted_of awake seats (bound_of (entry_of n f))) n f can)

pub rested_can : (awake : List ℕ) (seats : List Seat) (f : Exchanges) → Can f → Can (all_rested awake seats f)
rested_can awake seats f can = each_can awake seats (numbers (f.waiting ++ f.placed)) f can
