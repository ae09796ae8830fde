-- The clients stand in the order of their numbers: each is found at its place.
use Rattle.std.proofs.Common.{◌≡◌, ◌<◌, refl, sym, subst, ap, ap₂, ◌∙◌, ℕ, zero, suc, Bool, true, false, ◌==◌, ◌&&◌, ◌||◌, cond, find, length, List, [], ◌∷◌, Some, None, Option, arith}
use Rattle.std.proofs.lemmas.Bool.Decides.{nat_tests}
use Rattle.std.specs.List.{list_any}
use Rattle.std.specs.Prelude.{option_and_then, option_map, slice_get, slice_index, slice_set, ⊤}
use Rattle.pp_cache_law.proofs.Numbers.{some_is}
use Rattle.pp_flow_law.proofs.Entries.{none_some, other_way, same_number}
use Rattle.pp_law.specs.Connections.{is_client}
use Rattle.pp_law.specs.Lists.{Bytes, change, is_this}
use Rattle.pp_law.specs.State.{Client}
use Rattle.pp_seats.specs.declared.seat.Seat.{Seat}
use Rattle.pp_seats_law.specs.Clients.{AreShown, IsAt, IsNowhere}
use Rattle.pp_states_law.proofs.Changed.{asker_is}
use Rattle.pp_state.specs.Ends.{AreInOrder, numbers_of, place_of}

-- ---- order

abbrev AllAbove : ℕ → List Seat → Type 0
AllAbove m [] = ⊤
AllAbove m (seat ∷ seats) = (m < seat.client.id) × AllAbove m seats

above : (m : ℕ) (seats : List Seat) → ((j : ℕ) → j < length (numbers_of seats) → m < slice_index (numbers_of seats) j) → AllAbove m seats
above m [] each = tt
above m (seat ∷ seats) each = (each 0 (omega arith), above m seats (λ j less. each (suc j) (omega (arith, less))))

others_above : (seat : Seat) (seats : List Seat) → AreInOrder (numbers_of (seat ∷ seats)) → AllAbove seat.client.id seats
others_above seat seats order = above seat.client.id seats (λ j less. order 0 (suc j) (omega arith) (omega (arith, less)))

others_order : (seat : Seat) (seats : List Seat) → AreInOrder (numbers_of (seat ∷ seats)) → AreInOrder (numbers_of seats)
others_order seat seats order = λ i j less within. order (suc i) (suc j) (omega (arith, less)) (omega (arith, within))

isnt : (n m i : ℕ) → m ≡ n → m < i → (i == n) ≡ false
isnt n m i same less = grind (arith, nat_tests)

nowhere : (n m : ℕ) (seats : List Seat) → m ≡ n → AllAbove m seats → IsNowhere n seats
nowhere n m [] same all = tt
nowhere n m (seat ∷ seats) same all = (isnt n m seat.client.id same all.0, nowhere n m seats same all.1)

-- ---- places

pub at_place : (n i : ℕ) (seats : List Seat) → AreInOrder (numbers_of seats) → place_of n (numbers_of seats) ≡ Some i → IsAt n i seats
at_place n i [] order found = absurd (none_some i found)
at_place n i (seat ∷ seats) order found = by (seat.client.id == n) refl found (λ k e. at_place n k seats (others_order seat seats order) e)
  where
    behind : (seat.client.id == n) ≡ false → (o : Option ℕ) → place_of n (numbers_of seats) ≡ o → option_map suc o ≡ Some i → ((k : ℕ) → place_of n (numbers_of seats) ≡ Some k → IsAt n k seats) → IsAt n i (seat ∷ seats)
    behind off None e f rest = absurd (none_some i f)
    behind off (Some k) e f rest = subst (λ (j : ℕ). IsAt n j (seat ∷ seats)) (some_is (suc k) i f) (off, rest k e)

    by : (b : Bool) → (seat.client.id == n) ≡ b → cond b (Some 0) (option_map suc (place_of n (numbers_of seats))) ≡ Some i → ((k : ℕ) → place_of n (numbers_of seats) ≡ Some k → IsAt n k seats) → IsAt n i (seat ∷ seats)
    by true is f rest = subst (λ (j : ℕ). IsAt n j (seat ∷ seats)) (some_is 0 i f) (is, nowhere n seat.client.id seats (same_number seat.client.id n is) (others_above seat seats order))
    by false off f rest = behind off (place_of n (numbers_of seats)) refl f rest

pub no_place : (n : ℕ) (seats : List Seat) → place_of n (numbers_of seats) ≡ None → IsNowhere n seats
no_place n [] none = tt
no_place n (seat ∷ seats) none = by (seat.client.id == n) refl none (no_place n seats)
  where
    behind : (seat.client.id == n) ≡ false → (o : Option ℕ) → place_of n (numbers_of seats) ≡ o → option_map suc o ≡ None → (place_of n (numbers_of seats) ≡ None → IsNowhere n seats) → IsNowhere n (seat ∷ seats)
    behind off None e f rest = (off, rest e)
    behind off (Some k) e f rest = absurd (none_some (suc k) (sym f))

    by : (b : Bool) → (seat.client.id == n) ≡ b → cond b (Some 0) (option_map suc (place_of n (numbers_of seats))) ≡ None → (place_of n (numbers_of seats) ≡ None → IsNowhere n seats) → IsNowhere n (seat ∷ seats)
    by true is f rest = absurd (none_some 0 (sym f))
    by false off f rest = behind off (place_of n (numbers_of seats)) refl f rest

pub record HasSeat (i : ℕ) (seats : List Seat) : Type 0 where
  pub seat : Seat
  pub there : slice_get seats i ≡ Some seat

pub has_seat : (n i : ℕ) (seats : List Seat) → IsAt n i seats → HasSeat i seats
has_seat n i [] at = absurd at
has_seat n zero (seat ∷ seats) at = record { seat = seat; there = refl }
has_seat n (suc i) (seat ∷ seats) at =
    let one : HasSeat i seats = has_seat n i seats at.1 in
    record { seat = one.seat; there = one.there }

-- that of an exchange
pub record HasPlace (asker : Option ℕ) (ns : List ℕ) (i : ℕ) : Type 0 where
  pub client : ℕ
  pub asks : asker ≡ Some client
  pub place : place_of client ns ≡ Some i

pub has_place : (asker : Option ℕ) (ns : List ℕ) (i : ℕ) → option_and_then (λ (client : ℕ). place_of client ns) asker ≡ Some i → HasPlace asker ns i
has_place None ns i found = absurd (none_some i found)
has_place (Some n) ns i found = record { client = n; asks = refl; place = found }

-- ---- one is changed, and keeps its number

pub numbers_set : (i : ℕ) (seats : List Seat) (seat new : Seat) → slice_get seats i ≡ Some seat → new.client.id ≡ seat.client.id → numbers_of (slice_set seats i new) ≡ numbers_of seats
numbers_set i [] seat new there same = absurd (none_some seat there)
numbers_set zero (first ∷ seats) seat new there same = ap (λ (n : ℕ). n ∷ numbers_of seats) (same ∙ ap (λ (x : Seat). x.client.id) (sym (some_is first seat there)))
numbers_set (suc i) (first ∷ seats) seat new there same = ap (λ (ns : List ℕ). first.client.id ∷ ns) (numbers_set i seats seat new there same)

-- ---- the client of an exchange is one

or_false : (b : Bool) → b || false ≡ b
or_false true = refl
or_false false = refl

none_asks : (number : ℕ → ℕ) (name : Bytes) (owed : List Bytes) (n : ℕ) (test : Client → Bool) (seats : List Seat) (cs : List Client) → AreShown number name owed seats cs → IsNowhere n seats → list_any (λ c. is_this c.number (Some n) && test c) cs ≡ false
none_asks number name owed n test [] [] shown none = refl
none_asks number name owed n test [] (c ∷ cs) shown none = absurd shown
none_asks number name owed n test (seat ∷ seats) [] shown none = absurd shown
none_asks number name owed n test (seat ∷ seats) (c ∷ cs) shown none =
    ap₂ (λ (a b : Bool). (a && test c) || b) (other_way c.number n (ap (λ (m : ℕ). m == n) (sym shown.0.number) ∙ none.0)) (none_asks number name owed n test seats cs shown.1 none.1)

pub one_asks : (number : ℕ → ℕ) (name : Bytes) (owed : List Bytes) (n i : ℕ) (test : Client → Bool) (seats : List Seat) (cs : List Client) (d : Client) → AreShown number name owed seats cs → IsAt n i seats → find (is_client n) cs ≡ Some d
    → list_any (λ c. is_this c.number (Some n) && test c) cs ≡ test d
one_asks number name owed n i test [] cs d shown at found = absurd at
one_asks number name owed n i test (seat ∷ seats) [] d shown at found = absurd shown
one_asks number name owed n zero test (seat ∷ seats) (c ∷ cs) d shown at found =
    let is : is_client n c ≡ true = ap (λ (m : ℕ). m == n) (sym shown.0.number) ∙ at.0 in
    let same : c ≡ d = some_is c d (sym (ap (λ (b : Bool). cond b (Some c) (find (is_client n) cs)) is) ∙ found) in
    ap₂ (λ (a b : Bool). (a && test c) || b) (swapped c.number n is) (none_asks number name owed n test seats cs shown.1 at.1) ∙ or_false (test c) ∙ ap test same
  where
    swapped : (m n : ℕ) → (m == n) ≡ true → (n == m) ≡ true
    swapped m n is = grind (arith, nat_tests)
one_asks number name owed n (suc i) test (seat ∷ seats) (c ∷ cs) d shown at found =
    let off : is_client n c ≡ false = ap (λ (m : ℕ). m == n) (sym shown.0.number) ∙ at.0 in
    ap (λ (b : Bool). (b && test c) || list_any (λ x. is_this x.number (Some n) && test x) cs) (other_way c.number n off)
    ∙ one_asks number name owed n i test seats cs d shown.1 at.1 (sym (ap (λ (b : Bool). cond b (Some c) (find (is_client n) cs)) off) ∙ found)

-- ---- an exchange without a client

none_changed : (number : ℕ → ℕ) (name : Bytes) (owed : List Bytes) (n : ℕ) (g : Client → Client) (seats : List Seat) (cs : List Client) → AreShown number name owed seats cs → IsNowhere n seats → change (asker_is (Some n)) g cs ≡ cs
none_changed number name owed n g [] [] shown none = refl
none_changed number name owed n g [] (c ∷ cs) shown none = absurd shown
none_changed number name owed n g (seat ∷ seats) [] shown none = absurd shown
none_changed number name owed n g (seat ∷ seats) (c ∷ cs) shown none =
    ap₂ (λ (b : Bool) (ds : List Client). (elim b as (λ t. Client) [ true ↦ g c | false ↦ c ]) ∷ ds) (other_way c.number n (ap (λ (m : ℕ). m == n) (sym shown.0.number) ∙ none.0)) (none_changed number name owed n g seats cs shown.1 none.1)

nobody_changed : (g : Client → Client) (cs : List Client) → change (asker_is None) g cs ≡ cs
nobody_changed g [] = refl
nobody_changed g (c ∷ cs) = ap (λ (ds : List Client). c ∷ ds) (nobody_changed g cs)

nobody_asks : (test : Client → Bool) (cs : List Client) → list_any (λ c. is_this c.number None && test c) cs ≡ false
nobody_asks test [] = refl
nobody_asks test (c ∷ cs) = nobody_asks test cs

pub record HasNone (asker : Option ℕ) (cs : List Client) : Type 0 where
  pub changes : (g : Client → Client) → change (asker_is asker) g cs ≡ cs
  pub asks : (test : Client → Bool) → list_any (λ c. is_this c.number asker && test c) cs ≡ false

pub has_none : (number : ℕ → ℕ) (name : Bytes) (owed : List Bytes) (asker : Option ℕ) (seats : List Seat) (cs : List Client) → AreShown number name owed seats cs → option_and_then (λ (client : ℕ). place_of client (numbers_of seats)) asker ≡ None → HasNone asker cs
has_none number name owed None seats cs shown none = record { changes = λ g. nobody_changed g cs; asks = λ test. nobody_asks test cs }
has_none number name owed (Some n) seats cs shown none = record {
  changes = λ g. none_changed number name owed n g seats cs shown (no_place n seats none);
  asks = λ test. none_asks number name owed n test seats cs shown (no_place n seats none);
}
