-- Attempts that count anew are no part of what each client is, follows, or pins.
use Rattle.std.proofs.Common.{◌≡◌, ◌<◌, refl, sym, subst, ap, ◌∙◌, ℕ, zero, suc, ◌/◌, ◌^◌, Bool, true, false, ◌==◌, cond, length, List, [], ◌∷◌, Option, Some, None}
use Rattle.std.specs.List.{cons_option, filter_map}
use Rattle.std.specs.Prelude.{IfSome, slice_get, slice_set}
use Rattle.pp_cache.specs.Memory.{Memory}
use Rattle.pp_cache_law.proofs.Numbers.{is_same, some_is}
use Rattle.pp_turns_law.proofs.Changed.{get_set}
use Rattle.pp_turns_law.proofs.Regained.{get_other}
use Rattle.pp_law.specs.Lists.{has_number}
use Rattle.pp_seats.specs.Follows.{next_of}
use Rattle.pp_seats.specs.declared.seat.Course.TheVariants.{Trying}
use Rattle.pp_seats.specs.declared.seat.Seat.{Seat}
use Rattle.pp_state.specs.Ends.{all_regained, changed_at, is_regained, numbers_of, regained}
use Rattle.pp_state.specs.Pins.{pin_of_seat}
use Rattle.pp_state.specs.declared.state.State.{State as Turn}
use Rattle.pp_turns_law.specs.Firsts.{IsAsleep}
use Rattle.pp_turns_law.specs.Rows.{IsReady}
use Rattle.pp_leaves_law.specs.Pinned.{AreNear}

-- ---- of each client at its place

module _ (m : Memory) where
  -- of one
  abbrev anew_if : Bool → Seat → Seat
  anew_if b seat = cond b (record seat { course = Trying 0 }) seat

  one_on : (P : ℕ → Seat → Type 0) → ((i : ℕ) (seat : Seat) → P i seat → P i (regained m seat)) → (j : ℕ) (seats : List Seat) → ((i : ℕ) (seat : Seat) → slice_get seats i ≡ Some seat → P i seat)
      → (i : ℕ) (x : Seat) → slice_get (changed_at j (regained m) seats) i ≡ Some x → P i x
  one_on P on j seats all i x at = by (slice_get seats j) (j == i) refl refl at
    where
      by : (o : Option Seat) (b : Bool) → slice_get seats j ≡ o → (j == i) ≡ b → slice_get (elim o as (λ t. List Seat) [ None ↦ seats | Some seat ↦ slice_set seats j (regained m seat) ]) i ≡ Some x → P i x
      by None b here same there = all i x there
      by (Some seat) true here same there =
          let one : regained m seat ≡ x = some_is (regained m seat) x (sym (get_set j seats seat (regained m seat) here) ∙ ap (λ (k : ℕ). slice_get (slice_set seats j (regained m seat)) k) (is_same j i same) ∙ there) in
          subst (λ (y : Seat). P i y) one (on i seat (all i seat (ap (λ (k : ℕ). slice_get seats k) (sym (is_same j i same)) ∙ here)))
      by (Some seat) false here apart there = all i x (sym (get_other j i seats (regained m seat) apart) ∙ there)

  pub each_on : (P : ℕ → Seat → Type 0) → ((i : ℕ) (seat : Seat) → P i seat → P i (regained m seat)) → (places : List ℕ) (seats : List Seat) → ((i : ℕ) (seat : Seat) → slice_get seats i ≡ Some seat → P i seat)
      → (i : ℕ) (x : Seat) → slice_get (all_regained m places seats) i ≡ Some x → P i x
  each_on P on [] seats all = all
  each_on P on (j ∷ js) seats all = each_on P on js (changed_at j (regained m) seats) (one_on P on j seats all)

  pub asleep_on : (p : Turn) (awake : List ℕ) (i : ℕ) (seat : Seat) → (has_number i awake ≡ false → IsAsleep p seat) → has_number i awake ≡ false → IsAsleep p (regained m seat)
  asleep_on p awake i seat sleeps off = by (is_regained m seat) (sleeps off)
    where
      by : (b : Bool) → IsAsleep p seat → IsAsleep p (anew_if b seat)
      by true one = record { silent = one.silent; ticked = one.ticked }
      by false one = one

  pub ready_on : (number : ℕ → ℕ) (k : Memory) (next : ℕ) (i : ℕ) (seat : Seat) → (seat.is_closing ≡ false → IsReady number k next seat) → (regained m seat).is_closing ≡ false → IsReady number k next (regained m seat)
  ready_on number k next i seat ready = by (is_regained m seat)
    where
      by : (b : Bool) → (anew_if b seat).is_closing ≡ false → IsReady number k next (anew_if b seat)
      by true going = let one : IsReady number k next seat = ready going in record { follows = one.follows; key = one.key; joined = one.joined }
      by false going = ready going

  abbrev IsNear : Seat → Type 0
  IsNear seat = IfSome (next_of seat) (λ n. n.at / 4096 < 2 ^ 32)

  pub near_on : (i : ℕ) (seat : Seat) → IsNear seat → IsNear (regained m seat)
  near_on i seat near = by (is_regained m seat)
    where
      by : (b : Bool) → IsNear (anew_if b seat)
      by true = near
      by false = near

  -- ---- what is pinned

  pin_same : (seat : Seat) → pin_of_seat (regained m seat) ≡ pin_of_seat seat
  pin_same seat = by (is_regained m seat)
    where
      by : (b : Bool) → pin_of_seat (anew_if b seat) ≡ pin_of_seat seat
      by true = refl
      by false = refl

  pins_set : (k : ℕ) (xs : List Seat) (seat : Seat) → slice_get xs k ≡ Some seat → filter_map pin_of_seat (slice_set xs k (regained m seat)) ≡ filter_map pin_of_seat xs
  pins_set k [] seat at = refl
  pins_set zero (x ∷ xs) seat at = ap (λ (o : Option (ℕ × ℕ)). cons_option o (filter_map pin_of_seat xs)) (pin_same seat ∙ ap (λ (y : Seat). pin_of_seat y) (sym (some_is x seat at)))
  pins_set (suc k) (x ∷ xs) seat at = ap (λ (ps : List (ℕ × ℕ)). cons_option (pin_of_seat x) ps) (pins_set k xs seat at)

  pins_one : (j : ℕ) (seats : List Seat) → filter_map pin_of_seat (changed_at j (regained m) seats) ≡ filter_map pin_of_seat seats
  pins_one j seats = by (slice_get seats j) refl
    where
      by : (o : Option Seat) → slice_get seats j ≡ o → filter_map pin_of_seat (elim o as (λ t. List Seat) [ None ↦ seats | Some seat ↦ slice_set seats j (regained m seat) ]) ≡ filter_map pin_of_seat seats
      by None here = refl
      by (Some seat) here = pins_set j seats seat here

  pub pins_same : (places : List ℕ) (seats : List Seat) → filter_map pin_of_seat (all_regained m places seats) ≡ filter_map pin_of_seat seats
  pins_same [] seats = refl
  pins_same (j ∷ js) seats = pins_same js (changed_at j (regained m) seats) ∙ pins_one j seats

-- ---- of all

pub near_all : (seats : List Seat) → ((i : ℕ) (seat : Seat) → slice_get seats i ≡ Some seat → IfSome (next_of seat) (λ n. n.at / 4096 < 2 ^ 32)) → AreNear seats
near_all [] all = tt
near_all (seat ∷ seats) all = (all zero seat refl, near_all seats (λ i x at. all (suc i) x at))

length_numbers : (seats : List Seat) → length (numbers_of seats) ≡ length seats
length_numbers [] = refl
length_numbers (seat ∷ seats) = ap (λ (n : ℕ). suc n) (length_numbers seats)

pub as_many : (xs ys : List Seat) → numbers_of xs ≡ numbers_of ys → length xs ≡ length ys
as_many xs ys same = sym (length_numbers xs) ∙ ap (λ (ns : List ℕ). length ns) same ∙ length_numbers ys
