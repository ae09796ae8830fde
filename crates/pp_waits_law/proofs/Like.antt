-- What a wait changes of the clients: what each waits for, and nothing else.
use Rattle.std.proofs.Common.{◌≡◌, refl, sym, ap, ◌∙◌, ℕ, zero, suc, length, List, [], ◌∷◌, Option, Some, None}
use Rattle.std.specs.List.{fold}
use Rattle.std.specs.Prelude.{slice_get, slice_set}
use Rattle.pp_cache_law.proofs.Numbers.{some_is}
use Rattle.pp_due.specs.Waits.{rested_seat, waiting_on}
use Rattle.pp_seats.specs.declared.seat.Seat.{Seat}
use Rattle.pp_seats.specs.declared.seat.Shared.{Shared}
use Rattle.pp_state.specs.Ends.{changed_at, numbers_of}
use Rattle.pp_state.specs.declared.state.State.{State as Turn}
use Rattle.pp_states_law.proofs.Places.{numbers_set}
use Rattle.pp_turns_law.specs.Marks.{all_rested}
use Rattle.pp_wants.specs.Rests.{all_waiting, rested_at}

pub none_some : {A : Type 0} {x : A} → None ≡ Some x → ⊥
none_some e = absurd (cc e)

-- the one that was there
pub record Was (seats : List Seat) (j : ℕ) (new : Seat) : Type 0 where
  pub old : Seat
  pub here : slice_get seats j ≡ Some old
  pub awaited : Option Shared
  pub is : new ≡ waiting_on awaited old

itself : (seats : List Seat) (j : ℕ) (new : Seat) → slice_get seats j ≡ Some new → Was seats j new
itself seats j new at = record { old = new; here = at; awaited = new.waits_on; is = refl }

later : (first : Seat) (seats : List Seat) (j : ℕ) (new : Seat) → Was seats j new → Was (first ∷ seats) (suc j) new
later first seats j new was = record { old = was.old; here = was.here; awaited = was.awaited; is = was.is }

set_was : (i j : ℕ) (seats : List Seat) (old changed new : Seat) (awaited : Option Shared) → slice_get seats i ≡ Some old → changed ≡ waiting_on awaited old → slice_get (slice_set seats i changed) j ≡ Some new → Was seats j new
set_was i j [] old changed new awaited here is at = absurd (none_some here)
set_was zero zero (first ∷ seats) old changed new awaited here is at = record { old = old; here = here; awaited = awaited; is = sym (some_is changed new at) ∙ is }
set_was zero (suc j) (first ∷ seats) old changed new awaited here is at = itself (first ∷ seats) (suc j) new at
set_was (suc i) zero (first ∷ seats) old changed new awaited here is at = itself (first ∷ seats) zero new at
set_was (suc i) (suc j) (first ∷ seats) old changed new awaited here is at = later first seats j new (set_was i j seats old changed new awaited here is at)

changed_was : (p : Turn) (i j : ℕ) (seats : List Seat) (new : Seat) → slice_get (changed_at i (rested_seat p) seats) j ≡ Some new → Was seats j new
changed_was p i j seats new at = by (slice_get seats i) refl at
  where
    by : (o : Option Seat) → slice_get seats i ≡ o → slice_get (elim o as (λ t. List Seat) [ None ↦ seats | Some seat ↦ slice_set seats i (rested_seat p seat) ]) j ≡ Some new → Was seats j new
    by None none same = itself seats j new same
    by (Some old) here same = set_was i j seats old (rested_seat p old) new (rested_seat p old).waits_on here refl same

then_was : (seats others : List Seat) (j : ℕ) (new : Seat) → Was others j new → ((old : Seat) → slice_get others j ≡ Some old → Was seats j old) → Was seats j new
then_was seats others j new was before =
    let first : Was seats j was.old = before was.old was.here in
    record { old = first.old; here = first.here; awaited = was.awaited; is = was.is ∙ ap (λ (x : Seat). waiting_on was.awaited x) first.is }

pub all_were : (p : Turn) (is : List ℕ) (seats : List Seat) (j : ℕ) (new : Seat) → slice_get (all_rested p is seats) j ≡ Some new → Was seats j new
all_were p [] seats j new at = itself seats j new at
all_were p (i ∷ is) seats j new at =
    then_was seats (changed_at i (rested_seat p) seats) j new (all_were p is (changed_at i (rested_seat p) seats) j new at) (λ old here. changed_was p i j seats old here)

-- ---- as many, with their numbers

changed_numbers : (p : Turn) (i : ℕ) (seats : List Seat) → numbers_of (changed_at i (rested_seat p) seats) ≡ numbers_of seats
changed_numbers p i seats = by (slice_get seats i) refl
  where
    by : (o : Option Seat) → slice_get seats i ≡ o → numbers_of (elim o as (λ t. List Seat) [ None ↦ seats | Some seat ↦ slice_set seats i (rested_seat p seat) ]) ≡ numbers_of seats
    by None none = refl
    by (Some seat) here = numbers_set i seats seat (rested_seat p seat) here refl

pub all_numbers : (p : Turn) (is : List ℕ) (seats : List Seat) → numbers_of (all_rested p is seats) ≡ numbers_of seats
all_numbers p [] seats = refl
all_numbers p (i ∷ is) seats = all_numbers p is (changed_at i (rested_seat p) seats) ∙ changed_numbers p i seats

pub as_many : (seats : List Seat) → length (numbers_of seats) ≡ length seats
as_many [] = refl
as_many (seat ∷ seats) = ap suc (as_many seats)

pub count_same : (xs ys : List Seat) → numbers_of xs ≡ numbers_of ys → length xs ≡ length ys
count_same xs ys same = sym (as_many xs) ∙ ap (λ (ns : List ℕ). length ns) same ∙ as_many ys

-- ---- in the words of the program

folds : (p : Turn) (is : List ℕ) (seats : List Seat) → fold (rested_at p) seats is ≡ all_rested p is seats
folds p [] seats = refl
folds p (i ∷ is) seats = folds p is (changed_at i (rested_seat p) seats)

pub waiting_is : (p : Turn) → all_waiting p ≡ all_rested p p.awake.items p.seats.items
waiting_is p = folds p p.awake.items p.seats.items
