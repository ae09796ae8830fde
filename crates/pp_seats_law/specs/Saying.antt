-- So many bytes are said as the law says them (RFC 2616, section 6).
use Rattle.std.specs.Prelude.{◌≡◌, ◌≤◌, ◌+◌, ◌-◌, ◌^◌, ℕ, true, false, is_ok, List}
use Rattle.pp_client.specs.Replies.{is_said, left_next, said}
use Rattle.pp_law.specs.Lists.{Bytes}
use Rattle.pp_law.specs.Replies.{is_said as is_over, next_request, said_by}
use Rattle.pp_law.specs.Requests.{IsRequest, Parsed}
use Rattle.pp_law.specs.State.{Client}
use Rattle.pp_seats.specs.declared.seat.Seat.{Seat}
use Rattle.pp_seats.specs.Seats.{IsRead, at_next_request, told_by}
use Rattle.pp_seats_law.specs.Seats.{ShowsOpen, ShowsSeat}

-- of one that is not closing, where something of its reply is left behind them
abbrev pub SayingsAreTheLaws : Type 0
SayingsAreTheLaws = (number : ℕ → ℕ) (n : ℕ) (name : Bytes) (owed : List Bytes) (seat : Seat) (c : Client) → ShowsSeat number name owed seat c → c.is_closing ≡ false → n ≤ left_next seat.client.reply → is_said (said n seat.client.reply) ≡ false
    → ShowsSeat number name owed (told_by n seat) (said_by n c)

-- all was said, and the next request stands
pub record IsNext (number : ℕ → ℕ) (name : Bytes) (owed : List Bytes) (new : Seat) (c : Client) : Type 0 where
  pub over : is_over c ≡ true
  pub next : ShowsOpen number name owed new (next_request c)

-- of one whose reply is over with them, to a request whose end is known, as long as requests can be counted
abbrev pub EndingsAreTheLaws : Type 0
EndingsAreTheLaws = (number : ℕ → ℕ) (n : ℕ) (name : Bytes) (owed : List Bytes) (seat new : Seat) (c : Client) (r : Parsed) → ShowsSeat number name owed seat c → c.is_closing ≡ false → n ≤ left_next seat.client.reply → is_said (said n seat.client.reply) ≡ true
    → c.front ≡ IsRequest r → is_ok r.rule ≡ true → seat.index + 1 ≤ 2 ^ 64 - 1 → IsRead (at_next_request (told_by n seat)) new → IsNext number name owed new (said_by n c)

-- all of a reply was said, in the words of both
abbrev pub EndsAreTheSame : Type 0
EndsAreTheSame = (number : ℕ → ℕ) (name : Bytes) (owed : List Bytes) (seat : Seat) (c : Client) → ShowsOpen number name owed seat c → is_said seat.client.reply ≡ is_over c
