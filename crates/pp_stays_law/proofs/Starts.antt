-- There is room to note the names of all that clients and exchanges ask for, where none is noted yet; and what is kept of each key is the law's.
use Rattle.std.proofs.Common.{◌≡◌, ◌≤◌, ◌<◌, ◌+◌, refl, sym, subst, ap, ◌∙◌, ℕ, zero, suc, Bool, true, false, ◌||◌, cond, length, length-append, map, List, [], ◌∷◌, ◌++◌, Option, Some, None, arith}
use Rattle.std.proofs.lemmas.Slice.Eq.{bytes_eq-Decides}
use Rattle.std.specs.Prelude.{bytes_eq, count_by, slice_get}
use Rattle.pp_cache_law.proofs.Numbers.{some_is}
use Rattle.pp_cache_law.proofs.PairLemmas.{count_first}
use Rattle.pp_flow.specs.declared.entry.Entry.{Entry}
use Rattle.pp_kept_law.proofs.MayComeIn.{may_come_in}
use Rattle.pp_seats.specs.Heads.{asked_in, owned_in}
use Rattle.pp_seats.specs.declared.key.Key.{Key}
use Rattle.pp_seats.specs.declared.seat.Seat.{Seat}
use Rattle.pp_state.specs.Ends.{Parts}
use Rattle.pp_target.specs.Name.{name_of}
use Rattle.pp_stays_law.specs.Laws.{KeptOnesAreTheLaws, NamesHaveRoom}
use Rattle.pp_stays_law.specs.Names.{AllAskAmong, AsksAmong, is_among, is_unnoted}

-- ---- names

abbrev named_by : Option Key → List ℕ
named_by None = []
named_by (Some key) = name_of key.text.items

abbrev seat_names : List Seat → List (List ℕ)
seat_names seats = map (λ (seat : Seat). named_by (owned_in (asked_in seat.front))) seats

abbrev entry_names : List Entry → List (List ℕ)
entry_names xs = map (λ (x : Entry). name_of x.key.items) xs

abbrev all_names : Parts → List (List ℕ)
all_names p = seat_names p.seats ++ (entry_names p.flow.waiting ++ entry_names p.flow.placed)

map_length : {A : Type 0} (f : A → List ℕ) (xs : List A) → length (map f xs) ≡ length xs
map_length f [] = refl
map_length f (x ∷ xs) = ap (λ (n : ℕ). suc n) (map_length f xs)

in_first : (name : List ℕ) (xs ys : List (List ℕ)) → is_among xs name ≡ true → is_among (xs ++ ys) name ≡ true
in_first name [] ys is = absurd (cc is)
in_first name (x ∷ xs) ys is = by (bytes_eq name x) is (λ rest. in_first name xs ys rest)
  where
    by : (b : Bool) → (b || is_among xs name) ≡ true → (is_among xs name ≡ true → is_among (xs ++ ys) name ≡ true) → (b || is_among (xs ++ ys) name) ≡ true
    by true some rest = refl
    by false some rest = rest some

in_second : (name : List ℕ) (xs ys : List (List ℕ)) → is_among ys name ≡ true → is_among (xs ++ ys) name ≡ true
in_second name [] ys is = is
in_second name (x ∷ xs) ys is = ap (λ (b : Bool). bytes_eq name x || b) (in_second name xs ys is) ∙ by (bytes_eq name x)
  where
    by : (b : Bool) → (b || true) ≡ true
    by true = refl
    by false = refl

itself : (name : List ℕ) (xs : List (List ℕ)) → is_among (name ∷ xs) name ≡ true
itself name xs = ap (λ (b : Bool). b || is_among xs name) ((bytes_eq-Decides name name).1 refl)

behind : (name x : List ℕ) (xs : List (List ℕ)) → is_among xs name ≡ true → is_among (x ∷ xs) name ≡ true
behind name x xs is = in_second name (x ∷ []) xs is

seat_named : (i : ℕ) (seats : List Seat) (seat : Seat) → slice_get seats i ≡ Some seat → AsksAmong (seat_names seats) seat
seat_named i [] seat at key owned = absurd (cc at)
seat_named zero (x ∷ seats) seat at key owned =
    subst (λ (name : List ℕ). is_among (name ∷ seat_names seats) (name_of key.text.items) ≡ true) (sym (ap (λ (z : Seat). named_by (owned_in (asked_in z.front))) (some_is x seat at) ∙ ap named_by owned)) (itself (name_of key.text.items) (seat_names seats))
seat_named (suc i) (x ∷ seats) seat at key owned = behind (name_of key.text.items) (named_by (owned_in (asked_in x.front))) (seat_names seats) (seat_named i seats seat at key owned)

entries_named : (names : List (List ℕ)) (xs : List Entry) → ((name : List ℕ) → is_among (entry_names xs) name ≡ true → is_among names name ≡ true) → AllAskAmong names xs
entries_named names [] among = tt
entries_named names (x ∷ xs) among = (
  among (name_of x.key.items) (itself (name_of x.key.items) (entry_names xs)),
  entries_named names xs (λ name is. among name (behind name (name_of x.key.items) (entry_names xs) is)),
)

-- ---- there is room for as many

counts_less : (test : List ℕ → Bool) (xs : List (List ℕ)) → count_by test xs ≤ length xs
counts_less test [] = omega arith
counts_less test (x ∷ xs) = subst (λ (n : ℕ). n ≤ length (x ∷ xs)) (sym (count_first test x xs)) (by (test x) (count_by test xs) (length xs) (counts_less test xs))
  where
    by : (b : Bool) (m n : ℕ) → m ≤ n → cond b 1 0 + m ≤ suc n
    by true m n less = omega (arith, less)
    by false m n less = omega (arith, less)

pub room_at_first : NamesHaveRoom
room_at_first p none few = record {
  names = all_names p;
  seats = λ i seat at key owned. in_first (name_of key.text.items) (seat_names p.seats) (entry_names p.flow.waiting ++ entry_names p.flow.placed) (seat_named i p.seats seat at key owned);
  waiting =
      entries_named (all_names p) p.flow.waiting
      (λ name is. in_second name (seat_names p.seats) (entry_names p.flow.waiting ++ entry_names p.flow.placed) (in_first name (entry_names p.flow.waiting) (entry_names p.flow.placed) is));
  placed =
      entries_named (all_names p) p.flow.placed
      (λ name is. in_second name (seat_names p.seats) (entry_names p.flow.waiting ++ entry_names p.flow.placed) (in_second name (entry_names p.flow.waiting) (entry_names p.flow.placed) is));
  room = subst (λ (noted : List (List ℕ)). length noted + count_by (is_unnoted noted) (all_names p) < 2048) (sym none) (fits (count_by (is_unnoted []) (all_names p)) (length (all_names p)) (counts_less (is_unnoted []) (all_names p)) as_many few);
}
  where
    as_many : length (all_names p) ≡ length p.seats + (length p.flow.waiting + length p.flow.placed)
    as_many =
        length-append (seat_names p.seats) (entry_names p.flow.waiting ++ entry_names p.flow.placed)
        ∙ ap (λ (n : ℕ). length (seat_names p.seats) + n) (length-append (entry_names p.flow.waiting) (entry_names p.flow.placed))
        ∙ ap (λ (n : ℕ). n + (length (entry_names p.flow.waiting) + length (entry_names p.flow.placed))) (map_length (λ (seat : Seat). named_by (owned_in (asked_in seat.front))) p.seats)
        ∙ ap (λ (n : ℕ). length p.seats + (n + length (entry_names p.flow.placed))) (map_length (λ (x : Entry). name_of x.key.items) p.flow.waiting)
        ∙ ap (λ (n : ℕ). length p.seats + (length p.flow.waiting + n)) (map_length (λ (x : Entry). name_of x.key.items) p.flow.placed)

    fits : (count all : ℕ) → count ≤ all → all ≡ length p.seats + (length p.flow.waiting + length p.flow.placed) → length p.seats + (length p.flow.waiting + length p.flow.placed) < 2048 → 0 + count < 2048
    fits count all less is most = omega (arith, less, is, most)

-- ---- what is kept

pub kept_so : KeptOnesAreTheLaws
kept_so shelf p s its = may_come_in shelf p.cache s its.shows its.noted its.names
