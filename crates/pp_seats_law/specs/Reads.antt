-- What a client sends is read as the law reads it (RFC 2616, sections 4.4 and 5).
use Rattle.std.specs.Prelude.{◌≡◌, ◌+◌, ◌-◌, ◌^◌, ◌≤◌, ℕ, true, false, is_ok, List}
use Rattle.pp_client.specs.Replies.{ended}
use Rattle.pp_client.specs.Requests.{answered, heard_in}
use Rattle.pp_law.specs.Hearing.{heard_by}
use Rattle.pp_law.specs.Lists.{Bytes}
use Rattle.pp_law.specs.Replies.{next_request}
use Rattle.pp_law.specs.Requests.{IsRequest, Parsed}
use Rattle.pp_law.specs.State.{Client}
use Rattle.pp_seats.specs.declared.seat.Seat.{Seat}
use Rattle.pp_seats.specs.Seats.{IsRead, at_next_request}
use Rattle.pp_seats_law.specs.Seats.{ShowsOpen, ShowsSeat}

-- more came
abbrev pub heard_on : Bytes → Seat → Seat
heard_on bytes seat = record seat { client = record seat.client { heard = heard_in bytes seat.client.heard } }

-- of one that is not closing: what came is heard, and read as a request where there is none
abbrev pub ReadsAreTheLaws : Type 0
ReadsAreTheLaws = (number : ℕ → ℕ) (name : Bytes) (owed : List Bytes) (seat new : Seat) (c : Client) (bytes : Bytes) → ShowsSeat number name owed seat c → c.is_closing ≡ false → IsRead (heard_on bytes seat) new → ShowsSeat number name owed new (heard_by bytes c)

-- it sends no more
abbrev pub HangUpsAreTheLaws : Type 0
HangUpsAreTheLaws = (number : ℕ → ℕ) (name : Bytes) (owed : List Bytes) (seat : Seat) (c : Client) → ShowsSeat number name owed seat c → ShowsSeat number name owed (record seat { has_hung_up = true }) (record c { has_hung_up = true })

-- its reply is over
abbrev pub answered_on : Seat → Seat
answered_on seat = record seat { client = record seat.client { heard = answered seat.client.heard; reply = ended seat.client.reply } }

-- behind a request whose end is known the next one stands, as long as they can be counted
abbrev pub NextRequestsAreTheLaws : Type 0
NextRequestsAreTheLaws = (number : ℕ → ℕ) (name : Bytes) (owed : List Bytes) (seat new : Seat) (c : Client) (r : Parsed) → ShowsOpen number name owed seat c → c.front ≡ IsRequest r → is_ok r.rule ≡ true → seat.index + 1 ≤ 2 ^ 64 - 1
    → IsRead (at_next_request (answered_on seat)) new → ShowsOpen number name owed new (next_request c)
