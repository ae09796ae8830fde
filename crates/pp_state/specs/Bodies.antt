-- Where the bytes of a response go: to the instance that they belong to, and to the client that they are passed to (RFC 2616, section
-- 13.5.4; RFC 7233, section 4.3).
use Rattle.std.specs.Prelude.{ℕ, ◌+◌, ◌-◌, ◌≡◌, Bool, true, false, ◌&&◌, ◌||◌, min, is_some, nat_le, nat_lt, slice_get, List, length, take, drop, Option, Some, None, option_and_then}
use Rattle.std.specs.List.{find}
use Rattle.pp_cache.specs.Memory.{Memory, extent_of}
use Rattle.pp_cache.specs.OnDisk.{grown_by}
use Rattle.pp_flow.specs.Changes.{Exchanges, changed, entry_of, with_errand, without}
use Rattle.pp_flow.specs.Entries.{Span, is_number, moved_by, to_come}
use Rattle.pp_flow.specs.declared.entry.Aim.{Aim}
use Rattle.pp_flow.specs.declared.entry.Aim.TheVariants.{Own, Hole, Pass as Through}
use Rattle.pp_flow.specs.declared.entry.Entry.{Entry}
use Rattle.pp_flow.specs.declared.entry.Exchange.{Exchange}
use Rattle.pp_flow.specs.declared.errand.Body.{Body}
use Rattle.pp_flow.specs.declared.errand.Body.TheVariants.{Joining, Relaying, Dropping}
use Rattle.pp_holes.specs.Adding.{added}
use Rattle.pp_objects.specs.Changes.{faces}
use Rattle.pp_objects.specs.Instances.{is_there, total_at}
use Rattle.pp_objects.specs.declared.id.ObjectId.{ObjectId}
use Rattle.pp_pass.specs.Pipe.{Pipe, finished, room_of, with_data}
use Rattle.pp_seats.specs.Seats.{brought_to, passed_in, without_body}
use Rattle.pp_seats.specs.declared.seat.PassedEnd.TheVariants.{Whole}
use Rattle.pp_seats.specs.declared.seat.Seat.{Seat}
use Rattle.pp_text.specs.Bytes.{is_empty}
use Rattle.pp_state.specs.Ends.{changed_at, exchange_at, seat_for}
use Rattle.pp_state.specs.Unseen.{with_dropped}
use Rattle.pp_state.specs.declared.state.State.{State}

-- ---- to the instance that they belong to

-- eviction begins where as many chunks are used as the trigger says
abbrev pub with_use : State → State
with_use s = record s { is_evicting = s.is_evicting || nat_le s.trigger (length s.cache.chunks) }

-- bytes join an instance that is there, no further than its end
abbrev pub with_bytes : ObjectId → ℕ → List ℕ → Memory → Memory
with_bytes id at bytes m = elim (is_there id m.instances && nat_le (at + length bytes) (total_at id.slot m.instances)) [
  | true ↦ record m { chunks = (added m.size id.slot at bytes m.chunks).chunks; grown = grown_by id m.grown }
  | false ↦ m
]

-- how many of so many bytes are on the disk already
abbrev pub on_disk : ℕ → ℕ → ℕ → ℕ
on_disk extent at n = min n (extent - at)

-- the others join
abbrev pub with_others : ℕ → ObjectId → ℕ → List ℕ → Memory → Memory
with_others kept id at bytes m = with_bytes id (at + kept) (drop kept bytes) m

abbrev pub with_run : ObjectId → ℕ → List ℕ → Memory → Memory
with_run id at bytes m = with_others (on_disk (extent_of id m) at (length bytes)) id at bytes m

-- they are no longer to come
abbrev pub with_came : ℕ → ℕ → Exchanges → Exchanges
with_came n number f = record f { placed = changed number (moved_by n) f.placed }

abbrev pub joined_to : ℕ → Span → List ℕ → State → State
joined_to number span bytes s =
    with_use (record s { cache = with_run span.0 span.1 bytes s.cache; flow = with_came (length bytes) number s.flow })

-- how many bytes of its span are still to come, where it has a place
abbrev pub left_for : ℕ → Exchanges → Option ℕ
left_for number f = option_and_then to_come (find (is_number number) f.placed)

-- what comes behind the span is nobody's
abbrev pub joined_within : ℕ → Option ℕ → Span → List ℕ → State → State
joined_within number None span bytes s = s
joined_within number (Some left) span bytes s = joined_to number span (take left bytes) s

abbrev pub joined_by : ℕ → Option Span → List ℕ → State → State
joined_by number None bytes s = s
joined_by number (Some span) bytes s = joined_within number (left_for number s.flow) span bytes s

abbrev pub joined : Exchange → List ℕ → State → State
joined e bytes s = joined_by e.number e.bound bytes s

-- the cells of an instance follow its chunks, and all else is this
pub record HasJoined (wanted new : Memory) : Type 0 where
  pub rest : record new { instances = wanted.instances } ≡ wanted
  pub faces : faces new.instances ≡ faces wanted.instances

pub record IsButForCells (wanted new : State) : Type 0 where
  pub rest : record new { cache = wanted.cache } ≡ wanted
  pub cache : HasJoined wanted.cache new.cache

-- ---- to the client that they are passed to

abbrev pub on_pipe : (Pipe → Pipe) → Seat → Seat
on_pipe f seat = record seat { client = record seat.client { reply = record seat.client.reply { pipe = f seat.client.reply.pipe } } }

-- where a response is passed to it
abbrev pub on_passed : (Seat → Seat) → Seat → Seat
on_passed f seat = elim (passed_in seat.brought) [ None ↦ seat | Some passed ↦ f seat ]

-- where they find room; none are no chunk, since an empty one is the last
abbrev pub poured : List ℕ → Pipe → Pipe
poured bytes pipe = elim (is_empty bytes || pipe.is_finished || nat_lt (room_of pipe) (length bytes)) [ true ↦ pipe | false ↦ with_data bytes pipe ]

abbrev pub poured_into : List ℕ → Seat → Seat
poured_into bytes seat = on_passed (on_pipe (poured bytes)) seat

-- the body is whole
abbrev pub ended : Pipe → Pipe
ended pipe = elim pipe.is_finished [ true ↦ pipe | false ↦ finished pipe ]

abbrev pub passed_whole : Seat → Seat
passed_whole seat = record (on_pipe ended seat) { brought = brought_to Whole seat.brought }

-- what was not asked of its own body is dropped
abbrev pub skipped : Aim → Seat → Seat
skipped Own seat = seat
skipped (Hole v from to) seat = seat
skipped Through seat = without_body seat

abbrev pub finished_for : Aim → Seat → Seat
finished_for aim seat = skipped aim (on_passed passed_whole seat)

-- how many bytes find room: what is passed has a pipe of its own
abbrev pub room_in : ℕ → Seat → ℕ
room_in most seat = elim (passed_in seat.brought) [ None ↦ most | Some passed ↦ min (room_of seat.client.reply.pipe) most ]

-- ---- of the client of an exchange, whose request did not leave it

abbrev pub on_place : Option ℕ → (Seat → Seat) → List Seat → List Seat
on_place None f seats = seats
on_place (Some i) f seats = changed_at i f seats

abbrev pub on_asker : Exchange → (Seat → Seat) → List Seat → List Seat
on_asker e f seats = on_place (seat_for e seats) f seats

abbrev pub seat_in : Option ℕ → List Seat → Option Seat
seat_in None seats = None
seat_in (Some i) seats = slice_get seats i

abbrev pub is_passed_in : Option Seat → Bool
is_passed_in None = false
is_passed_in (Some seat) = is_some (passed_in seat.brought)

-- its response is passed to that client
abbrev pub is_passed : Exchange → List Seat → Bool
is_passed e seats = is_passed_in (seat_in (seat_for e seats) seats)

abbrev pub room_of_seat : ℕ → Option Seat → ℕ
room_of_seat most None = most
room_of_seat most (Some seat) = room_in most seat

-- how many bytes may be read for it
abbrev pub room_for : Exchange → ℕ → List Seat → ℕ
room_for e most seats = room_of_seat most (seat_in (seat_for e seats) seats)

-- ---- data of the response to the exchange with this number came

abbrev pub poured_for : Option Exchange → List ℕ → List Seat → List Seat
poured_for None bytes seats = seats
poured_for (Some e) bytes seats = on_asker e (poured_into bytes) seats

abbrev pub with_dropped_in : ℕ → ℕ → State → State
with_dropped_in number n s = record s { flow = with_dropped number n s.flow }

-- but for what goes into the pipe of a client
abbrev pub delivered_for : Option Exchange → ℕ → List ℕ → State → State
delivered_for None number bytes s = s
delivered_for (Some e) number bytes s = with_dropped_in number (length bytes) (joined e bytes s)

abbrev pub delivered : ℕ → List ℕ → State → State
delivered number bytes s = delivered_for (exchange_at number s.flow) number bytes s

-- ---- the response to the exchange is whole

abbrev pub without_exchange : ℕ → Exchanges → Exchanges
without_exchange number f = record f { waiting = without number f.waiting; placed = without number f.placed }

-- ---- its head came: what becomes of its body

abbrev pub body_by : Option Span → Bool → Body
body_by (Some span) passed = Joining span.1
body_by None true = Relaying
body_by None false = Dropping 0

abbrev pub body_of : Exchange → List Seat → Body
body_of e seats = body_by e.bound (is_passed e seats)

abbrev pub with_body_for : Option Entry → ℕ → List Seat → Exchanges → Exchanges
with_body_for None number seats f = f
with_body_for (Some e) number seats f = with_errand number (record e.errand { body = body_of e.exchange seats }) f

abbrev pub with_body : ℕ → List Seat → Exchanges → Exchanges
with_body number seats f = with_body_for (entry_of number f) number seats f
