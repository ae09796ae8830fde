-- What is asked next on a connection, and whose answer is due there (RFC 2616, sections 5 and 8.2); and which ask of a follower is of
-- no use any more.
use Rattle.std.specs.Prelude.{ℕ, ◌-◌, Bool, true, false, ◌==◌, ◌&&◌, ◌||◌, not, cond, nat_lt, List, length, take, slice_get, Option, Some, None}
use Rattle.std.specs.List.{find}
use Rattle.pp_cache.specs.Memory.{Memory}
use Rattle.pp_client.specs.Requests.{body_in}
use Rattle.pp_flow.specs.Changes.{Exchanges, entry_of, line_of}
use Rattle.pp_flow.specs.declared.entry.Aim.{Aim}
use Rattle.pp_flow.specs.declared.entry.Aim.TheVariants.{Own, Hole, Pass as Through}
use Rattle.pp_flow.specs.declared.entry.Entry.{Entry}
use Rattle.pp_flow.specs.declared.entry.Exchange.{Exchange}
use Rattle.pp_seats.specs.declared.seat.Next.{Next}
use Rattle.pp_seats.specs.declared.seat.Seat.{Seat}
use Rattle.pp_state.specs.declared.asking.Asking.{Asking}
use Rattle.pp_state.specs.declared.asking.Asking.TheVariants.{Text, Body}
use Rattle.pp_state.specs.Bringing.{brings}
use Rattle.pp_state.specs.Ends.{seat_for}
use Rattle.pp_state.specs.Readers.{next_at}

-- ---- on a connection

-- its text was asked whole
abbrev pub is_outstanding : Entry → Bool
is_outstanding e = e.errand.asked == length e.text.items

-- of which text or body bytes are left
abbrev pub is_being_asked : Entry → Bool
is_being_asked e = not (is_outstanding e) || nat_lt 0 e.errand.body_left

abbrev pub is_left : Option Entry → Bool
is_left None = false
is_left (Some e) = is_being_asked e

-- the exchange that is asked next, of the first sixteen of the line
abbrev pub asked_next : ℕ → Exchanges → Option ℕ
asked_next k f = find (λ n. is_left (entry_of n f)) (take 16 (line_of k f.placed))

-- its text; or the body of its request, which the client at its place sends
abbrev pub body_from : ℕ → ℕ → Option ℕ → Option Asking
body_from n left None = None
body_from n left (Some i) = Some (Body n left i)

abbrev pub what_is_left : ℕ → List Seat → Option Entry → Option Asking
what_is_left n seats None = None
what_is_left n seats (Some e) = cond (is_outstanding e) (body_from n e.errand.body_left (seat_for e.exchange seats)) (Some (Text n (length e.text.items - e.errand.asked)))

abbrev pub asking_of : List Seat → Exchanges → Option ℕ → Option Asking
asking_of seats f None = None
asking_of seats f (Some n) = what_is_left n seats (entry_of n f)

abbrev pub asking : ℕ → List Seat → Exchanges → Option Asking
asking k seats f = asking_of seats f (asked_next k f)

abbrev pub has_heard_body : Option Seat → Bool
has_heard_body None = false
has_heard_body (Some seat) = nat_lt 0 (length (body_in seat.client.heard))

-- it is there to be asked: all of a text is, and of a body what was heard
abbrev pub is_there_to_ask : List Seat → Option Asking → Bool
is_there_to_ask seats None = false
is_there_to_ask seats (Some (Text n left)) = true
is_there_to_ask seats (Some (Body n left i)) = has_heard_body (slice_get seats i)

-- ---- whose answer is due: that of the first of the line, asked whole

abbrev pub owed_by : Option Entry → Option Exchange
owed_by None = None
owed_by (Some e) = cond (is_being_asked e) None (Some e.exchange)

abbrev pub owed_to : Exchanges → Option ℕ → Option Exchange
owed_to f None = None
owed_to f (Some n) = owed_by (entry_of n f)

abbrev pub owed_answer : ℕ → Exchanges → Option Exchange
owed_answer k f = owed_to f (slice_get (line_of k f.placed) 0)

-- ---- asks of followers

abbrev pub brings_next : Memory → Entry → Option Next → Bool
brings_next m e None = false
brings_next m e (Some n) = brings n.source n.at m e

abbrev pub is_wanted_at : Memory → List Seat → Entry → Option ℕ → Bool
is_wanted_at m seats e None = false
is_wanted_at m seats e (Some i) = brings_next m e (next_at seats i)

-- it brings the next byte of its own client
abbrev pub is_wanted : Memory → List Seat → Entry → Bool
is_wanted m seats e = is_wanted_at m seats e (seat_for e.exchange seats)

abbrev pub fills_hole : Aim → Bool
fills_hole Own = false
fills_hole (Hole v from to) = true
fills_hole Through = false

-- an ask for a hole that does not
abbrev pub is_useless : Memory → List Seat → Option Entry → Bool
is_useless m seats None = false
is_useless m seats (Some e) = fills_hole e.exchange.aim && not (is_wanted m seats e)
