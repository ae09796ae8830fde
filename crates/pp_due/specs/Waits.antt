-- Who is looked at in a turn, what is waited for of clients, and what a wait and a tick change of them (ours).
use Rattle.std.specs.Prelude.{ℕ, Bool, false, ◌==◌, ◌&&◌, ◌||◌, not, cond, nat_lt, List, [], ◌∷◌, ◌++◌, length, slice_get, Option, Some, None}
use Rattle.std.specs.List.{fold}
use Rattle.pp_client.specs.Requests.{room_of}
use Rattle.pp_seats.specs.Follows.{next_of}
use Rattle.pp_seats.specs.Seats.{is_silent}
use Rattle.pp_seats.specs.declared.seat.Next.{Next}
use Rattle.pp_seats.specs.declared.seat.Seat.{Seat}
use Rattle.pp_seats.specs.declared.seat.Shared.{Shared}
use Rattle.pp_state.specs.Bringing.{is_brought}
use Rattle.pp_due.specs.Due.{is_dry}
use Rattle.pp_decide.specs.Sharing.{is_sharing, has_asked, shared_ask}
use Rattle.pp_state.specs.declared.state.State.{State}
use Rattle.pp_state.specs.Numbers.{if_room, places, with_read_by}

-- ---- who is looked at: the places, in their order

abbrev pub is_loud_in : Option Seat → Bool
is_loud_in None = false
is_loud_in (Some seat) = not (is_silent seat)

-- from a wait on, those that are not silent
abbrev pub is_loud : List Seat → ℕ → Bool
is_loud seats i = is_loud_in (slice_get seats i)

-- ---- what is waited for of them

-- it may send more, and there is room for what it sends
abbrev pub is_read : Seat → Bool
is_read seat = not seat.has_hung_up && nat_lt 0 (room_of seat.client.heard)

-- something is left to say to it; to one that is silent nothing is
abbrev pub is_written : State → Seat → Bool
is_written s seat = not (is_silent seat) && not (is_dry s seat)

abbrev pub with_read_of : Option Seat → List ℕ → List ℕ
with_read_of None ms = ms
with_read_of (Some seat) ms = with_read_by (is_read seat) seat.client.id ms

abbrev pub with_written_by : Bool → ℕ → List ℕ → List ℕ
with_written_by is_written n ms = cond is_written (if_room (ms ++ n ∷ []) ms) ms

abbrev pub with_written_of : State → Option Seat → List ℕ → List ℕ
with_written_of s None ms = ms
with_written_of s (Some seat) ms = with_written_by (is_written s seat) seat.client.id ms

abbrev pub with_read : List Seat → List ℕ → ℕ → List ℕ
with_read seats ms i = with_read_of (slice_get seats i) ms

abbrev pub with_written : State → List ℕ → ℕ → List ℕ
with_written s ms i = with_written_of s (slice_get s.seats.items i) ms

-- who is not looked at is read or not as at the last wait; where all are, the list is written anew
abbrev pub read_before : State → List ℕ → List ℕ
read_before s ms = cond (length s.awake.items == length s.seats.items) [] ms

abbrev pub all_read : State → List ℕ → List ℕ
all_read s ms = fold (with_read s.seats.items) (read_before s ms) s.awake.items

abbrev pub all_written : State → List ℕ → List ℕ
all_written s ms = fold (with_written s) ms s.awake.items

-- ---- at a wait

-- from now on
abbrev pub shared_from : ℕ → Option ℕ → Option Shared
shared_from now None = None
shared_from now (Some n) = Some (record { exchange = n; since = now })

abbrev pub shared_with : State → Seat → Option Shared
shared_with s seat = cond (is_sharing s seat) (shared_from s.now (shared_ask seat s.flow)) None

abbrev pub awaited_in : State → Seat → Option Shared → Option Shared
awaited_in s seat None = shared_with s seat
awaited_in s seat (Some w) = Some w

-- it waits for the exchange that it shares
abbrev pub awaited_by : State → Seat → Option Shared
awaited_by s seat = awaited_in s seat seat.waits_on

abbrev pub waiting_on : Option Shared → Seat → Seat
waiting_on awaited seat = record seat { waits_on = awaited }

abbrev pub rested_seat : State → Seat → Seat
rested_seat s seat = waiting_on (awaited_by s seat) seat

-- ---- at a tick

-- for the exchange that brings its next byte; where it follows nothing, for that of its request, or for one that it shares
abbrev pub waits_for_next : State → Seat → Option Next → Bool
waits_for_next s seat None = has_asked seat.client.id s.flow || is_sharing s seat
waits_for_next s seat (Some n) = is_brought n.source n.at s.cache s.flow

abbrev pub waits_for_exchange : State → Seat → Bool
waits_for_exchange s seat = waits_for_next s seat (next_of seat)

-- nothing is there to be said to it
abbrev pub is_waiting : State → Seat → Bool
is_waiting s seat = waits_for_exchange s seat && is_dry s seat

-- who waited for an exchange, and was not written to, is not idle, however long the clock stood still
abbrev pub woken_by : Bool → ℕ → Seat → Seat
woken_by waits now seat = cond waits (record seat { client = record seat.client { mark = now } }) seat

abbrev pub woken_seat : ℕ → State → Seat → Seat
woken_seat now s seat = woken_by (is_waiting s seat) now seat
