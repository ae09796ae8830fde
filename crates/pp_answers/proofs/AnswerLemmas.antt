-- What is left of a state, call by call: the clients keep their numbers, and the room for a row is made of what is in memory.
use Rattle.std.proofs.Common.{◌≡◌, sym, subst, refl, ℕ, Bool, true, false, ◌&&◌, ◌||◌, not, nat_le, Option, Some, None}
use Rattle.std.specs.Prelude.{count_by}
use Rattle.pp_objects.specs.Instances.{Instance, is_row}
use Rattle.pp_seats.specs.Courses.{has_begun, lost_one, without_row, without_shared_row}
use Rattle.pp_seats.specs.declared.seat.Course.TheVariants.{Trying}
use Rattle.pp_seats.specs.declared.seat.Seat.{Seat}
use Rattle.pp_state.specs.Ends.{AreInOrder, AreSeated, numbers_of}
use Rattle.pp_state.specs.Pins.{forgotten_row, idle_row, with_room}
use Rattle.pp_state.specs.declared.state.State.{State}

pub still_seated : (old new : State) → numbers_of new.seats.items ≡ numbers_of old.seats.items → AreSeated old → AreSeated new
still_seated old new same ordered = subst AreInOrder (sym same) ordered

-- who loses a shared row keeps its number
without_number : (b : Bool) (seat : Seat) → (elim b as (λ b. Seat) [ true ↦ seat | false ↦ record seat { course = Trying 0; has_given_up = true } ]).client.id ≡ seat.client.id
without_number true seat = refl
without_number false seat = refl

lost_number : (b : Bool) (most : ℕ) (seat : Seat) → (elim b as (λ b. Seat) [ true ↦ record seat { course = lost_one most seat.course } | false ↦ without_row seat ]).client.id ≡ seat.client.id
lost_number true most seat = refl
lost_number false most seat = without_number (has_begun seat || seat.has_given_up) seat

pub shared_row_number : (most : ℕ) (seat : Seat) → (without_shared_row most seat).client.id ≡ seat.client.id
shared_row_number most seat = lost_number (seat.has_given_up && not (has_begun seat)) most seat

-- ---- the room for a row

of_row : (o : Option Instance) (s : State) → ((forgotten_row o s).now ≡ s.now) × ((forgotten_row o s).seats ≡ s.seats)
of_row None s = (refl, refl)
of_row (Some i) s = (refl, refl)

abbrev room_by : Bool → Option Instance → State → State
room_by b o s = elim b [ true ↦ forgotten_row o s | false ↦ s ]

of_room : (b : Bool) (o : Option Instance) (s : State) → ((room_by b o s).now ≡ s.now) × ((room_by b o s).seats ≡ s.seats)
of_room true o s = of_row o s
of_room false o s = (refl, refl)

pub room_now : (s : State) → (with_room s).now ≡ s.now
room_now s = (of_room (nat_le 1024 (count_by is_row s.cache.instances)) (idle_row s) s).0

pub room_seats : (s : State) → (with_room s).seats ≡ s.seats
room_seats s = (of_room (nat_le 1024 (count_by is_row s.cache.instances)) (idle_row s) s).1
