-- A client that is closing is shut: that is permitted, and the state behind it is shown without it (RFC 2616, section 8.1).
use Rattle.std.specs.Prelude.{◌≡◌, ◌==◌, ℕ, true, not, filter, find, slice_get, Some, None}
use Rattle.pp_law.specs.After.{after}
use Rattle.pp_law.specs.Closing.{is_of}
use Rattle.pp_law.specs.Permits.{IsPermitted}
use Rattle.pp_law.specs.State.{State}
use Rattle.pp_desk.specs.Closings.{Sides, with_parts}
use Rattle.pp_seats.specs.declared.seat.Seat.{Seat}
use Rattle.pp_state.specs.Ends.{Parts}
use Rattle.pp_world.specs.declared.happening.Happening.TheVariants.{Shut}
use Rattle.pp_turns_law.specs.Log.{IsConnecting}
use Rattle.pp_turns_law.specs.Sides.{OfSides, ShowsSides}

abbrev pub without_client : ℕ → Parts → Parts
without_client n p = record p { seats = filter (λ seat. not (seat.client.id == n)) p.seats }

-- its cause to be closed has come, and no exchange is its
pub record IsToShut (i : ℕ) (x : Sides) (s : State) (seat : Seat) : Type 0 where
  pub here : slice_get x.parts.seats i ≡ Some seat
  pub closing : seat.is_closing ≡ true
  pub alone : find (is_of seat.client.id) s.exchanges ≡ None

abbrev pub ShutsAreTheLaws : Type 0
ShutsAreTheLaws = OfSides (λ number name x s. (i : ℕ) (seat : Seat) → IsConnecting s → IsToShut i x s seat
    → IsPermitted s (Shut seat.client.id) × ShowsSides number name (with_parts (without_client seat.client.id) x) (after s (Shut seat.client.id)))
