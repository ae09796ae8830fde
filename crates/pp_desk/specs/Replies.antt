-- Replies that were said whole are over (RFC 2616, section 8.1), and clients of whom nothing is left are closed.
use Rattle.std.specs.Prelude.{◌≡◌, ◌||◌, ℕ, Bool, true, false, if◌then◌else◌, List, [], ◌∷◌, slice_get, Option, Some, None}
use Rattle.std.specs.List.{fold}
use Rattle.pp_desk.specs.Closings.{Sides, closed_client, with_parts}
use Rattle.pp_seats.specs.Accounts.{anew}
use Rattle.pp_seats.specs.Seats.{IsRead, at_next_request, finished_in}
use Rattle.pp_seats.specs.declared.seat.Seat.{Seat}
use Rattle.pp_state.specs.Ends.{Parts, forsaken, left_source, on_seat}
use Rattle.pp_state.specs.Hearing.{is_said_in, lacks_key_at, with_end}
use Rattle.pp_state.specs.Places.{IsChangedAt}

-- what the client at this place sent is read as a request, where there is none. Where memory was refused for its key, this life goes
-- astray
abbrev pub IsLookedAt : ℕ → Sides → Sides → Type 0
IsLookedAt i old new =
    IsChangedAt IsRead i old.parts.seats new.parts.seats × (record new { parts = record new.parts { seats = old.parts.seats } } ≡ record old { parts = record old.parts { is_astray = old.parts.is_astray || lacks_key_at i new.parts.seats } })

-- ---- a reply is over

-- whether it is to be closed behind it
abbrev pub closes_in : Option Seat → Bool
closes_in None = false
closes_in (Some seat) = seat.closes

abbrev pub account_renewed : Seat → Seat
account_renewed seat = record seat { account = anew seat.account }

-- the next request stands: nothing is followed, and the exchange is nobody's
abbrev pub at_next : ℕ → Parts → Parts
at_next i p = on_seat i at_next_request (forsaken i (left_source i p))

abbrev pub EndsBy : Bool → ℕ → Sides → Sides → Type 0
EndsBy true i old new = new ≡ closed_client i old
EndsBy false i old new = IsLookedAt i (with_parts (at_next i) old) new

abbrev pub EndsReply : ℕ → Sides → Sides → Type 0
EndsReply i old new = EndsBy (closes_in (slice_get old.parts.seats i)) i (with_parts (on_seat i account_renewed) old) new

-- where all of it was said. One that is passed may end without a byte
abbrev pub EndsWhere : Bool → ℕ → Sides → Sides → Type 0
EndsWhere true i old new = EndsReply i old new
EndsWhere false i old new = new ≡ old

abbrev pub EndsSaidOf : ℕ → Sides → Sides → Type 0
EndsSaidOf i old new = EndsWhere (is_said_in (slice_get old.parts.seats i)) i (with_parts (on_seat i with_end) old) new

abbrev pub EndsSaidIn : Option ℕ → Sides → Sides → Type 0
EndsSaidIn None old new = new ≡ old
EndsSaidIn (Some i) old new = EndsSaidOf i old new

-- of those at these places, one behind the other
abbrev pub EndsSaid : List ℕ → Sides → Sides → Type 0
EndsSaid [] old new = new ≡ old
EndsSaid (i ∷ is) old new = (next : Sides) × EndsSaidOf i old next × EndsSaid is next new

-- ---- a client that sends no more

-- nothing that it sent is left to answer
abbrev pub is_finished_in : Option Seat → Bool
is_finished_in None = false
is_finished_in (Some seat) = finished_in seat

abbrev pub without_finished_at : Sides → ℕ → Sides
without_finished_at x i = if is_finished_in (slice_get x.parts.seats i) then closed_client i x else x

abbrev pub without_finished : List ℕ → Sides → Sides
without_finished is x = fold without_finished_at x is

-- ---- both, for those at these places

abbrev pub EndsReplies : List ℕ → Sides → Sides → Type 0
EndsReplies is old new = (next : Sides) × EndsSaid is old next × (new ≡ without_finished is next)
