-- What a decision leaves of the clients, but for what it does: their numbers.
use Rattle.std.proofs.Common.{◌≡◌, ◌∙◌, refl, if◌then◌else◌, Bool, true, false, ℕ, List, [], ◌∷◌, Option, Some, None}
use Rattle.pp_cache.specs.Memory.{Memory}
use Rattle.pp_objects.specs.Instances.{Instance}
use Rattle.pp_seats.specs.Follows.{next_of}
use Rattle.pp_seats.specs.declared.seat.Course.TheVariants.{Trying}
use Rattle.pp_seats.specs.declared.seat.Seat.{Seat}
use Rattle.pp_state.specs.Ends.{KeepsRest, all_regained, changed_at, is_regained, numbers_of, regained}
use Rattle.pp_steps.specs.Evicting.{given_way, row_in_way, without_row}
use Rattle.pp_state.specs.declared.state.State.{State}
use Rattle.pp_state.proofs.SeatsLemmas.{changed_numbers}
use Rattle.pp_world.specs.declared.note.Decision.{Decision}

regained_number : (m : Memory) (seat : Seat) → (regained m seat).client.id ≡ seat.client.id
regained_number m seat = by (is_regained m seat)
  where
    by : (b : Bool) → (if b then record seat { course = Trying 0 } else seat).client.id ≡ seat.client.id
    by true = refl
    by false = refl

pub regained_numbers : (m : Memory) (is : List ℕ) (seats : List Seat) → numbers_of (all_regained m is seats) ≡ numbers_of seats
regained_numbers m [] seats = refl
regained_numbers m (i ∷ is) seats = regained_numbers m is (changed_at i (regained m) seats) ∙ changed_numbers i (regained m) seats (regained_number m)

pub given_numbers : (d : Decision) (i : ℕ) (s : State) → numbers_of (given_way d i s).seats.items ≡ numbers_of s.seats.items
given_numbers d i s = by (row_in_way d i s)
  where
    by : (o : Option Instance) → numbers_of (without_row o s).seats.items ≡ numbers_of s.seats.items
    by None = refl
    by (Some x) = refl

pub given_rest : (d : Decision) (i : ℕ) (s : State) → KeepsRest s (given_way d i s)
given_rest d i s = by (row_in_way d i s)
  where
    by : (o : Option Instance) → KeepsRest s (without_row o s)
    by None = refl
    by (Some x) = refl
