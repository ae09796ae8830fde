-- How far the request of a client is, and what is made of its seat (RFC 2616, sections 8.1.4 and 8.2.3).
use Rattle.std.specs.Prelude.{◌≡◌, ℕ, ◌+◌, ◌-◌, ◌^◌, min, Bool, true, false, ◌==◌, ◌&&◌, ◌||◌, not, nat_lt, length, List, Option, Some, None}
use Rattle.pp_client.specs.Clients.{Client, said_by}
use Rattle.pp_client.specs.Requests.{body_dropped, body_in, current_of}
use Rattle.pp_seats.specs.declared.account.Account.TheVariants.{Unkept}
use Rattle.pp_seats.specs.declared.front.Front.{Front}
use Rattle.pp_seats.specs.declared.front.Front.TheVariants.{NoHeadYet, NoHead, Request as IsThere}
use Rattle.pp_seats.specs.declared.seat.Brought.{Brought}
use Rattle.pp_seats.specs.declared.seat.Brought.TheVariants.{Awaited, Useless, Joins, Passes, TooWide, Refused}
use Rattle.pp_seats.specs.declared.seat.Course.TheVariants.{Trying}
use Rattle.pp_seats.specs.declared.seat.Passed.{Passed}
use Rattle.pp_seats.specs.declared.seat.PassedEnd.{PassedEnd}
use Rattle.pp_seats.specs.declared.seat.Seat.{Seat}
use Rattle.pp_seats.specs.declared.seat.Stage.{Stage}
use Rattle.pp_seats.specs.declared.seat.Stage.TheVariants.{Undecided, Waiting, Passing, Answering}
use Rattle.pp_seats.specs.Accounts.{anew, said}
use Rattle.pp_seats.specs.Courses.{has_begun}
use Rattle.pp_seats.specs.Heads.{IsFrontOf, asked_in, body_len_in, is_key_text, is_there_in, owned_in}

-- ---- what its exchange brought

-- the head of the response came
abbrev pub is_told_in : Brought → Bool
is_told_in Awaited = false
is_told_in Useless = true
is_told_in (Joins id plain) = true
is_told_in (Passes x) = true
is_told_in TooWide = true
is_told_in Refused = true

-- the response that is passed to it
abbrev pub passed_in : Brought → Option Passed
passed_in Awaited = None
passed_in Useless = None
passed_in (Joins id plain) = None
passed_in (Passes x) = Some x
passed_in TooWide = None
passed_in Refused = None

-- the body of that response came to this
abbrev pub brought_to : PassedEnd → Brought → Brought
brought_to end Awaited = Awaited
brought_to end Useless = Useless
brought_to end (Joins id plain) = Joins id plain
brought_to end (Passes x) = Passes (record x { end = end })
brought_to end TooWide = TooWide
brought_to end Refused = Refused

-- ---- where its request is

abbrev pub is_undecided_in : Stage → Bool
is_undecided_in Undecided = true
is_undecided_in Waiting = false
is_undecided_in Passing = false
is_undecided_in (Answering a) = false

abbrev pub has_key : List ℕ → Seat → Bool
has_key text seat = is_key_text text (owned_in (asked_in seat.front))

abbrev pub is_at_body : Seat → Bool
is_at_body seat = has_begun seat && (seat.before_body == 0)

-- it sent no whole head, and may send more
abbrev pub is_silent : Seat → Bool
is_silent seat = is_undecided_in seat.stage && not (is_there_in seat.front) && not seat.has_hung_up && not seat.is_closing

-- nothing that it sent is left to answer: no request, or one whose body stays short
abbrev pub finished_in : Seat → Bool
finished_in seat = seat.has_hung_up && not seat.is_closing && (not (is_there_in seat.front) || nat_lt (length (body_in seat.client.heard)) seat.body_left)

-- ---- what is made of it

-- of a client that was accepted
abbrev pub new_seat : Client → Seat
new_seat client = record {
  client = client;
  has_hung_up = false;
  front = NoHeadYet;
  body_left = 0;
  index = 0;
  stage = Undecided;
  waits_on = None;
  brought = Awaited;
  course = Trying 0;
  has_given_up = false;
  before_body = 0;
  closes = false;
  is_closing = false;
  account = Unkept;
}

-- what stands at the front of what its client sent is its request, by what stood there before
abbrev pub IsReadBehind : Front → Seat → Seat → Type 0
IsReadBehind NoHeadYet old new = IsFrontOf new.front (current_of old.client.heard) × (new ≡ record old { front = new.front; body_left = body_len_in (asked_in new.front) })
IsReadBehind (NoHead status) old new = new ≡ old
IsReadBehind (IsThere a) old new = new ≡ old

abbrev pub IsRead : Seat → Seat → Type 0
IsRead old new = IsReadBehind old.front old new

-- so many bytes were said
abbrev pub told_by : ℕ → Seat → Seat
told_by n seat = record seat { client = said_by n seat.client; before_body = seat.before_body - n; account = said n seat.account }

-- the rest of the request's body is dropped as it comes
abbrev pub without_body : Seat → Seat
without_body seat = record seat { client = record seat.client { heard = body_dropped seat.client.heard }; body_left = 0 }

-- the next request stands
abbrev pub at_next_request : Seat → Seat
at_next_request seat = record seat {
  front = NoHeadYet;
  body_left = 0;
  index = min (seat.index + 1) (2 ^ 64 - 1);
  stage = Undecided;
  waits_on = None;
  brought = Awaited;
  course = Trying 0;
  has_given_up = false;
  before_body = 0;
  closes = false;
  account = anew seat.account;
}
