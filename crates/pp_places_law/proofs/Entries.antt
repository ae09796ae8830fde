-- An exchange without a place, in the turn and in the law: what it asks, and what it is as it gets one.
use Rattle.std.proofs.Common.{◌≡◌, ◌≤◌, ◌+◌, ◌-◌, ◌<◌, refl, sym, subst, ap, ap₂, ◌∙◌, ℕ, zero, suc, Bool, true, false, not, ◌&&◌, cond, nat_le, find, length, List, [], ◌∷◌, ◌++◌, Option, Some, None, arith}
use Rattle.std.proofs.lemmas.Bool.Decides.{nat_tests}
use Rattle.std.specs.Prelude.{drop, is_some, slice_range, take}
use Rattle.pp_cache.specs.Memory.{Memory}
use Rattle.pp_cache_law.proofs.Finds.{find_joined, find_passes, first_of_two}
use Rattle.pp_cache_law.proofs.Numbers.{some_is}
use Rattle.pp_cache_law.specs.Pairs.{AreBoth}
use Rattle.pp_flow.specs.Changes.{Exchanges, changed, entry_of, first_of, placed_on, with_errand, without}
use Rattle.pp_flow.specs.Entries.{asking, is_number, with_place}
use Rattle.pp_flow.specs.declared.entry.Entry.{Entry}
use Rattle.pp_flow_law.proofs.Entries.{any_is, changed_last, find_without, none_some}
use Rattle.pp_flow_law.proofs.Standing.{few_waiting, none_placed, placed_has}
use Rattle.pp_flow_law.specs.Tables.{Leaving, ShowsFlow}
use Rattle.pp_law.specs.Connections.{exchange}
use Rattle.pp_law.specs.Lists.{Bytes}
use Rattle.pp_law.specs.State.{State, Exchange}
use Rattle.pp_places.specs.Placing.{host_of, put_last}
use Rattle.pp_seats_law.specs.Exchanges.{ShowsExchange}
use Rattle.pp_states_law.proofs.Told.{told_of, told_over}
use Rattle.pp_states_law.specs.Told.{AreTold, EachIsTold, IsToldBy}
use Rattle.pp_target.specs.Key.{IsPlaceIn, Key}
use Rattle.pp_places_law.specs.Around.{AreAskable, IsAskable}
use Rattle.pp_places_law.specs.Places.{IsUnplaced}

-- ---- all can be asked

pub askable_found : (p : Entry → Bool) (xs : List Entry) (x : Entry) → find p xs ≡ Some x → AreAskable xs → IsAskable x
askable_found p [] x there all = absurd (none_some x there)
askable_found p (y ∷ ys) x there all = by (p y) there (λ later. askable_found p ys x later all.1)
  where
    by : (b : Bool) → cond b (Some y) (find p ys) ≡ Some x → (find p ys ≡ Some x → IsAskable x) → IsAskable x
    by true found rest = subst (λ (z : Entry). IsAskable z) (some_is y x found) all.0
    by false found rest = rest found

pub askable_without : (n : ℕ) (xs : List Entry) → AreAskable xs → AreAskable (without n xs)
askable_without n [] all = tt
askable_without n (x ∷ xs) all = by (is_number n x) (askable_without n xs all.1)
  where
    by : (b : Bool) → AreAskable (without n xs) → AreAskable (cond b xs (x ∷ without n xs))
    by true rest = all.1
    by false rest = (all.0, rest)

pub askable_last : (xs : List Entry) (y : Entry) → AreAskable xs → IsAskable y → AreAskable (xs ++ y ∷ [])
askable_last [] y all one = (one, tt)
askable_last (x ∷ xs) y all one = (all.0, askable_last xs y all.1 one)

askable_entry : (n : ℕ) (f : Exchanges) (x : Entry) → AreAskable f.waiting → AreAskable f.placed → entry_of n f ≡ Some x → IsAskable x
askable_entry n f x waiting placed here = by (find (is_number n) f.waiting) refl here
  where
    by : (o : Option Entry) → find (is_number n) f.waiting ≡ o → first_of o (find (is_number n) f.placed) ≡ Some x → IsAskable x
    by None is there = askable_found (is_number n) f.placed x there placed
    by (Some y) is there = askable_found (is_number n) f.waiting x (is ∙ there) waiting

-- the texts of the law have room too
pub short_texts : (number : ℕ → ℕ) (l : Leaving) (f : Exchanges) (s : State) → ShowsFlow number l f s → AreAskable f.waiting → AreAskable f.placed → (n : ℕ) (e : Exchange) → exchange s n ≡ Some e → length e.text ≤ 16384
short_texts number l f s shows waiting placed n e there = by (entry_of n f) refl (subst (λ (o : Option Exchange). AreBoth (ShowsExchange number) (entry_of n f) o) there (shows.each n))
  where
    by : (o : Option Entry) → entry_of n f ≡ o → AreBoth (ShowsExchange number) o (Some e) → length e.text ≤ 16384
    by None is both = absurd both
    by (Some x) is both = subst (λ (text : Bytes). length text ≤ 16384) both.text (askable_entry n f x waiting placed is).short

-- ---- the one without a place

pub record HasEntry (number : ℕ → ℕ) (f : Exchanges) (e : Exchange) : Type 0 where
  pub entry : Entry
  pub here : find (is_number e.number) f.waiting ≡ Some entry
  pub known : entry_of e.number f ≡ Some entry
  pub shows : ShowsExchange number entry e

pub waits : (number : ℕ → ℕ) (l : Leaving) (f : Exchanges) (s : State) (e : Exchange) → ShowsFlow number l f s → IsUnplaced s e → HasEntry number f e
waits number l f s e shows un = by (find (is_number e.number) f.waiting) (find (is_number e.number) f.placed) refl refl (subst (λ (o : Option Exchange). AreBoth (ShowsExchange number) (entry_of e.number f) o) un.there (shows.each e.number))
  where
    by : (u v : Option Entry) → find (is_number e.number) f.waiting ≡ u → find (is_number e.number) f.placed ≡ v → AreBoth (ShowsExchange number) (entry_of e.number f) (Some e) → HasEntry number f e
    by (Some x) v is so both =
        let known : entry_of e.number f ≡ Some x = ap (λ (o : Option Entry). first_of o (find (is_number e.number) f.placed)) is in
        record { entry = x; here = is; known = known; shows = subst (λ (o : Option Entry). AreBoth (ShowsExchange number) o (Some e)) known both }
    by None (Some x) is so both =
        absurd (let bad : true ≡ false = ap (λ (o : Option ℕ). not (is_some o)) (sym un.waits) ∙ placed_has number l f s shows e.number x e so un.there in cc bad)
    by None None is so both =
        absurd (subst (λ (o : Option Entry). AreBoth (ShowsExchange number) o (Some e)) (ap₂ (λ (a b : Option Entry). first_of a b) is so) both)

-- its host is that of the law's key
within : (a b p len : ℕ) → a < b → b ≤ p → p < len → (nat_le a b && nat_le b len) ≡ true
within a b p len one two three = ap₂ (λ (c d : Bool). c && d) (le a b (omega (arith, one))) (le b len (omega (arith, two, three)))
  where
    le : (m n : ℕ) → m ≤ n → nat_le m n ≡ true
    le m n less = grind (arith, nat_tests)

pub host_is : (number : ℕ → ℕ) (x : Entry) (e : Exchange) → ShowsExchange number x e → IsAskable x → host_of x ≡ Some e.key.host
host_is number x e shows ask =
    let place : IsPlaceIn x.key.items x.errand.place = ask.place in
    ap (λ (b : Bool). cond b (Some (slice_range x.key.items x.errand.place.host.0 x.errand.place.host.1)) None)
    (within x.errand.place.host.0 x.errand.place.host.1 x.errand.place.path (length x.key.items) place.host_nonempty place.host_before_path place.path_within)
    ∙ ap (λ (key : Key). Some key.host) shows.parts

take_short : (n : ℕ) (xs : Bytes) → length (take n xs) ≤ n
take_short zero xs = omega arith
take_short (suc n) [] = omega arith
take_short (suc n) (x ∷ xs) = omega (arith, take_short n xs)

pub host_short : (number : ℕ → ℕ) (x : Entry) (e : Exchange) → ShowsExchange number x e → IsAskable x → length e.key.host ≤ 255
host_short number x e shows ask =
    subst (λ (key : Key). length key.host ≤ 255) shows.parts (short x.key.items x.errand.place.host.0 x.errand.place.host.1 ask.place.host_short)
  where
    short : (text : Bytes) (a b : ℕ) → b ≤ a + 255 → length (slice_range text a b) ≤ 255
    short text a b less = omega (arith, less, take_short (b - a) (drop a text))

-- ---- as it gets its place

abbrev pub put_at : ℕ → ℕ → Entry → Exchanges → Exchanges
put_at n k x f = record f { waiting = without n f.waiting; placed = f.placed ++ asking (record x.errand { asked = 0 }) (with_place (Some k) x) ∷ [] }

-- as the program makes it, by what it asked
pub is_put_at : (number : ℕ → ℕ) (l : Leaving) (f : Exchanges) (s : State) → ShowsFlow number l f s → (n k : ℕ) (x : Entry) → find (is_number n) f.waiting ≡ Some x → with_errand n (record x.errand { asked = 0 }) (placed_on k n f) ≡ put_at n k x f
is_put_at number l f s shows n k x here =
    ap (λ (o : Option Entry). with_errand n (record x.errand { asked = 0 }) (elim o as (λ u. Exchanges) [ None ↦ f | Some e ↦ record f { waiting = without n f.waiting; placed = f.placed ++ with_place (Some k) e ∷ [] } ])) here
    ∙ ap (λ (b : Bool). cond b (record f { waiting = changed n (asking (record x.errand { asked = 0 })) (without n f.waiting); placed = f.placed ++ with_place (Some k) x ∷ [] })
    (record f { waiting = without n f.waiting; placed = changed n (asking (record x.errand { asked = 0 })) (f.placed ++ with_place (Some k) x ∷ []) }))
    (any_is (is_number n) (without n f.waiting) None (find_without n f.waiting (few_waiting number l f s shows n)))
    ∙ ap (λ (es : List Entry). record f { waiting = without n f.waiting; placed = es })
    (changed_last n (asking (record x.errand { asked = 0 })) f.placed (with_place (Some k) x) (none_placed number l f s shows n x here) (find_passes (is_number n) f.waiting x here))

-- it is found with its place
entry_put : (number : ℕ → ℕ) (l : Leaving) (f : Exchanges) (s : State) → ShowsFlow number l f s → (n k : ℕ) (x : Entry) → find (is_number n) f.waiting ≡ Some x → entry_of n (placed_on k n f) ≡ Some (with_place (Some k) x)
entry_put number l f s shows n k x here =
    ap (λ (o : Option Entry). entry_of n (elim o as (λ u. Exchanges) [ None ↦ f | Some e ↦ record f { waiting = without n f.waiting; placed = f.placed ++ with_place (Some k) e ∷ [] } ])) here
    ∙ ap₂ (λ (u v : Option Entry). first_of u v) (find_without n f.waiting (few_waiting number l f s shows n))
    (find_joined (is_number n) f.placed (with_place (Some k) x ∷ [])
    ∙ ap₂ (λ (u : Option Entry) (b : Bool). first_of_two u (cond b (Some (with_place (Some k) x)) None)) (none_placed number l f s shows n x here) (find_passes (is_number n) f.waiting x here))

pub put_last_is : (number : ℕ → ℕ) (l : Leaving) (f : Exchanges) (s : State) → ShowsFlow number l f s → (n k : ℕ) (x : Entry) → find (is_number n) f.waiting ≡ Some x → put_last true n k f ≡ with_errand n (record x.errand { asked = 0 }) (placed_on k n f)
put_last_is number l f s shows n k x here =
    ap (λ (o : Option Entry). elim o as (λ u. Exchanges) [ None ↦ placed_on k n f | Some y ↦ with_errand n (record y.errand { asked = 0 }) (placed_on k n f) ]) (entry_put number l f s shows n k x here)

-- what it is bound to is told
each_last : (number : ℕ → ℕ) (m : Memory) (next : ℕ) (xs : List Entry) (y : Entry) → EachIsTold number m next xs → IsToldBy number m next y.exchange.bound → EachIsTold number m next (xs ++ y ∷ [])
each_last number m next [] y all one = (one, tt)
each_last number m next (x ∷ xs) y all one = (all.0, each_last number m next xs y all.1 one)

pub told_put : (number : ℕ → ℕ) (m : Memory) (next n k : ℕ) (f : Exchanges) (x : Entry) → AreTold number m next f → entry_of n f ≡ Some x → AreTold number m next (put_at n k x f)
told_put number m next n k f x told known = record {
  waiting = (told_over number m next n f told).waiting;
  placed = each_last number m next f.placed (asking (record x.errand { asked = 0 }) (with_place (Some k) x)) told.placed (told_of number m next n f x told known);
}

pub askable_put : (k : ℕ) (x : Entry) → IsAskable x → IsAskable (asking (record x.errand { asked = 0 }) (with_place (Some k) x))
askable_put k x ask = record { place = ask.place; short = ask.short }
