-- All of a reply was said, and a request was read (RFC 2616, sections 5 and 6).
use Rattle.std.specs.Prelude.{ℕ, Bool, true, false, ◌==◌, ◌&&◌, not, is_some, slice_get, List, Option, Some, None}
use Rattle.pp_client.specs.Clients.{said_by}
use Rattle.pp_client.specs.Replies.{has_begun as is_said_to}
use Rattle.pp_seats.specs.Courses.{has_begun}
use Rattle.pp_seats.specs.Heads.{asked_in}
use Rattle.pp_seats.specs.Seats.{passed_in}
use Rattle.pp_seats.specs.declared.front.Asked.{Asked}
use Rattle.pp_seats.specs.declared.seat.Passed.{Passed}
use Rattle.pp_seats.specs.declared.seat.PassedEnd.{PassedEnd}
use Rattle.pp_seats.specs.declared.seat.PassedEnd.TheVariants.{Coming, Whole, Short}
use Rattle.pp_seats.specs.declared.seat.Seat.{Seat}

abbrev pub is_whole : PassedEnd → Bool
is_whole Coming = false
is_whole Whole = true
is_whole Short = false

abbrev pub is_passed_whole : Option Passed → Bool
is_passed_whole None = false
is_passed_whole (Some passed) = is_whole passed.end

-- a reply that began is under way
abbrev pub is_under_way : Seat → Bool
is_under_way seat = not seat.is_closing && has_begun seat

-- one that is passed may end without a byte
abbrev pub may_end : Seat → Bool
may_end seat = is_under_way seat && is_passed_whole (passed_in seat.brought) && is_said_to seat.client.reply.stage

abbrev pub with_end : Seat → Seat
with_end seat = elim (may_end seat) [ true ↦ record seat { client = said_by 0 seat.client } | false ↦ seat ]

abbrev pub is_said : Seat → Bool
is_said seat = is_under_way seat && not (is_said_to (with_end seat).client.reply.stage)

-- of the client at a place
abbrev pub is_said_in : Option Seat → Bool
is_said_in None = false
is_said_in (Some seat) = is_said seat

-- ---- memory was refused for the key of a request: it has none, and is refused with 500

abbrev pub is_without_memory : Option ℕ → Bool
is_without_memory None = false
is_without_memory (Some status) = status == 500

abbrev pub lacks_key_in : Option Asked → Bool
lacks_key_in None = false
lacks_key_in (Some a) = not (is_some a.key) && is_without_memory a.refusal

abbrev pub lacks_key : Seat → Bool
lacks_key seat = lacks_key_in (asked_in seat.front)

-- of the client at this place
abbrev pub lacks_key_at : ℕ → List Seat → Bool
lacks_key_at i seats = elim (slice_get seats i) [ None ↦ false | Some seat ↦ lacks_key seat ]
