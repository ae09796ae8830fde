-- What becomes of exchanges (RFC 2616, section 8.1.4): whose they are, what an attempt that is lost costs, and who leaves them.
use Rattle.std.specs.Prelude.{◌≡◌, ℕ, suc, ◌<◌, Bool, false, ◌==◌, ◌&&◌, ◌||◌, not, if◌then◌else◌, List, [], ◌∷◌, length, map, nat_lt, slice_get, slice_index, slice_set, is_some, Option, Some, None, option_and_then, option_map}
use Rattle.std.specs.List.{find}
use Rattle.pp_cache.specs.Memory.{Memory, extent_of, is_in_memory, retired_at}
use Rattle.pp_cache.specs.Notes.{has_noted, unnoted}
use Rattle.pp_flow.specs.Changes.{Exchanges, changed, entry_of, first_of, unplaced, with_errand, without}
use Rattle.pp_flow.specs.Entries.{Span, bound_to, is_asked_by, is_number, nobodys}
use Rattle.pp_flow.specs.Errands.{attempts_in}
use Rattle.pp_flow.specs.declared.entry.Exchange.{Exchange}
use Rattle.pp_objects.specs.Changes.{given_back, is_last, left_from}
use Rattle.pp_objects.specs.Instances.{followers_of, in_slot, is_there, row_of}
use Rattle.pp_objects.specs.declared.id.ObjectId.{ObjectId}
use Rattle.pp_seats.specs.Courses.{has_begun, is_trying_in, is_unfilled, lost_one, without_row}
use Rattle.pp_seats.specs.Follows.{answer_in, next_of}
use Rattle.pp_seats.specs.Seats.{brought_to, has_key, passed_in}
use Rattle.pp_seats.specs.declared.seat.Brought.{Brought}
use Rattle.pp_seats.specs.declared.seat.Brought.TheVariants.{Awaited, Useless, Joins, Passes, TooWide, Refused}
use Rattle.pp_seats.specs.declared.seat.Course.{Course}
use Rattle.pp_seats.specs.declared.seat.Course.TheVariants.{OutOfTries, Trying}
use Rattle.pp_seats.specs.declared.seat.Next.{Next}
use Rattle.pp_seats.specs.declared.seat.PassedEnd.TheVariants.{Short}
use Rattle.pp_seats.specs.declared.seat.Seat.{Seat}
use Rattle.pp_seats.specs.declared.seat.Stage.{Stage}
use Rattle.pp_seats.specs.declared.seat.Stage.TheVariants.{Undecided, Waiting, Passing, Answering}
use Rattle.pp_state.specs.declared.state.State.{State}
use Rattle.pp_state.specs.Keys.{key_of}
use Rattle.pp_valid.specs.declared.version.Version.{Version}

-- ---- the clients, in the order of their numbers

abbrev pub numbers_of : List Seat → List ℕ
numbers_of seats = map (λ seat. seat.client.id) seats

-- each is above those before it
abbrev pub AreInOrder : List ℕ → Type 0
AreInOrder numbers = (i j : ℕ) → i < j → j < length numbers → slice_index numbers i < slice_index numbers j

-- the place of a number
abbrev pub place_of : ℕ → List ℕ → Option ℕ
place_of n [] = None
place_of n (m ∷ ms) = if m == n then Some 0 else option_map suc (place_of n ms)

-- the client at this place is changed
abbrev pub changed_at : ℕ → (Seat → Seat) → List Seat → List Seat
changed_at i f seats = elim (slice_get seats i) [ None ↦ seats | Some seat ↦ slice_set seats i (f seat) ]

-- ---- what changes where exchanges end: the clients, the exchanges, what is in memory, the keys of rows that it was refused for, and
-- whether it was refused so in this life

pub record Parts : Type 0 where
  pub seats : List Seat
  pub flow : Exchanges
  pub cache : Memory
  pub refused : List (List ℕ)
  pub is_astray : Bool

abbrev pub parts : State → Parts
parts s = record { seats = s.seats.items; flow = s.flow; cache = s.cache; refused = s.refused; is_astray = s.is_astray }

-- all else stays
abbrev pub KeepsRest : State → State → Type 0
KeepsRest old new = record new { seats = old.seats; flow = old.flow; cache = old.cache; refused = old.refused; is_astray = old.is_astray } ≡ old

abbrev pub AreSeated : State → Type 0
AreSeated s = AreInOrder (numbers_of s.seats.items)

-- ---- whose they are

-- the place of its client: the request did not leave it
abbrev pub seat_for : Exchange → List Seat → Option ℕ
seat_for e seats = option_and_then (λ client. place_of client (numbers_of seats)) e.asker

abbrev pub asker_of : ℕ → Parts → Option Seat
asker_of number p = option_and_then (λ x. option_and_then (slice_get p.seats) (seat_for x.exchange p.seats)) (entry_of number p.flow)

-- it may ask once more
abbrev pub may_ask_again : ℕ → Parts → Bool
may_ask_again number p = elim (asker_of number p) [ None ↦ false | Some seat ↦ is_trying_in seat.course ]

abbrev pub exchange_at : ℕ → Exchanges → Option Exchange
exchange_at number flow = option_map (λ x. x.exchange) (entry_of number flow)

abbrev pub asked_by : ℕ → Exchanges → Option ℕ
asked_by client flow = option_map (λ x. x.exchange.number) (first_of (find (is_asked_by client) flow.waiting) (find (is_asked_by client) flow.placed))

-- that of the request of the client at this place
abbrev pub exchange_of : ℕ → Parts → Option Exchange
exchange_of i p = option_and_then (λ seat. option_and_then (λ number. exchange_at number p.flow) (asked_by seat.client.id p.flow)) (slice_get p.seats i)

abbrev pub on_seat : ℕ → (Seat → Seat) → Parts → Parts
on_seat i f p = record p { seats = changed_at i f p.seats }

-- ---- they end, or are left

abbrev pub ended : ℕ → Parts → Parts
ended number p = record p { flow = record p.flow { waiting = without number p.flow.waiting; placed = without number p.flow.placed } }

-- it is nobody's from now on
abbrev pub left : ℕ → Parts → Parts
left number p = record p { flow = record p.flow { waiting = changed number nobodys p.flow.waiting; placed = changed number nobodys p.flow.placed } }

-- the request of the client at this place leaves its own
abbrev pub forsaken : ℕ → Parts → Parts
forsaken i p = elim (exchange_of i p) [ None ↦ p | Some e ↦ left e.number p ]

-- at a decision: without a place it is over
abbrev pub left_by : Exchange → Parts → Parts
left_by e p = elim e.place [ None ↦ ended e.number p | Some k ↦ left e.number p ]

abbrev pub left_at_decision : ℕ → Parts → Parts
left_at_decision i p = elim (exchange_of i p) [ None ↦ p | Some e ↦ left_by e p ]

-- ---- a row that is not known any more

-- who waited for the row that memory was refused for is decided again
abbrev pub useless_if_refused : Brought → Brought
useless_if_refused Awaited = Awaited
useless_if_refused Useless = Useless
useless_if_refused (Joins id plain) = Joins id plain
useless_if_refused (Passes x) = Passes x
useless_if_refused TooWide = TooWide
useless_if_refused Refused = Useless

abbrev pub decided_anew : List ℕ → Seat → Seat
decided_anew key seat = if has_key key seat then record seat { brought = useless_if_refused seat.brought } else seat

abbrev pub all_decided_anew : List ℕ → List (List ℕ) → List Seat → List Seat
all_decided_anew key refused seats = if has_noted key refused then map (decided_anew key) seats else seats

abbrev pub cleared_key : List ℕ → Parts → Parts
cleared_key key p = record p { cache = retired_at key p.cache; refused = unnoted key p.refused; seats = all_decided_anew key p.refused p.seats }

abbrev pub cleared_of : Option (List ℕ) → Parts → Parts
cleared_of None p = p
cleared_of (Some key) p = cleared_key key p

-- that of the exchange with this number
abbrev pub cleared_row : ℕ → Parts → Parts
cleared_row number p = cleared_of (key_of number p.flow) p

-- ---- attempts

abbrev pub version_at : Option (List ℕ) → Memory → Option Version
version_at None memory = None
version_at (Some key) memory = option_map (λ i. i.version) (row_of key memory.instances)

abbrev pub known_version : ℕ → Parts → Option Version
known_version number p = version_at (key_of number p.flow) p.cache

abbrev pub is_unfilled_by : Exchange → Option Seat → Option Version → Bool
is_unfilled_by e None known = false
is_unfilled_by e (Some seat) None = false
is_unfilled_by e (Some seat) (Some known) = is_unfilled e.aim seat.course known

-- a hole of the row's version was asked for, and the attempts of the request at this place ended
abbrev pub is_unfilled_at : ℕ → Exchange → Parts → Bool
is_unfilled_at i e p = is_unfilled_by e (slice_get p.seats i) (known_version e.number p)

-- a row whose hole nobody fills is cleared, and its request leaves the exchange
abbrev pub dropped_row : ℕ → Exchange → Parts → Parts
dropped_row i e p = left e.number (on_seat i without_row (cleared_row e.number p))

unfoldable pub given_up_row : ℕ → Exchange → Parts → Parts
given_up_row i e p = if is_unfilled_at i e p then dropped_row i e p else p

-- what an exchange costs its request
abbrev pub with_course : (Course → Course) → Seat → Seat
with_course cost seat = record seat { course = cost seat.course }

unfoldable pub charged_at : Option ℕ → (Course → Course) → Exchange → Parts → Parts
charged_at None cost e p = p
charged_at (Some i) cost e p = given_up_row i e (on_seat i (with_course cost) p)

abbrev pub charged : (Course → Course) → Exchange → Parts → Parts
charged cost e p = charged_at (seat_for e p.seats) cost e p

abbrev pub lost_attempt : Exchange → Parts → Parts
lost_attempt e p = elim (entry_of e.number p.flow) [ None ↦ p | Some x ↦ charged (lost_one (attempts_in x.errand.is_asked_once)) e p ]

-- the attempts end at once
abbrev pub failed : Exchange → Parts → Parts
failed e p = charged (λ course. OutOfTries) e p

-- ---- the connection of an exchange is gone

abbrev pub on_seat_where : Option ℕ → (Seat → Seat) → Parts → Parts
on_seat_where None f p = p
on_seat_where (Some i) f p = on_seat i f p

-- what was passed of it ends early
abbrev pub cut_short : Exchange → Parts → Parts
cut_short e p = on_seat_where (seat_for e p.seats) (λ seat. record seat { brought = brought_to Short seat.brought }) p

-- nothing of it was asked
abbrev pub asked_anew : ℕ → Exchanges → Exchanges
asked_anew number flow = elim (entry_of number flow) [ None ↦ flow | Some x ↦ with_errand number (record x.errand { asked = 0 }) flow ]

abbrev pub asked_elsewhere : ℕ → Parts → Parts
asked_elsewhere number p = record p { flow = asked_anew number (unplaced number p.flow) }

abbrev pub may_go_elsewhere : ℕ → Parts → Bool
may_go_elsewhere number p = may_ask_again number p && is_some (find (is_number number) p.flow.placed)

-- behind its head it is over, and before that it is asked again for the request that waits for it
unfoldable pub left_place : Exchange → Parts → Parts
left_place e p = if e.headed then ended e.number (cut_short e p) else if may_go_elsewhere e.number p then asked_elsewhere e.number p else ended e.number p

abbrev pub charged_where : Bool → Exchange → Parts → Parts
charged_where counts e p = if counts then lost_attempt e p else p

abbrev pub left_place_at : Option Exchange → Bool → Parts → Parts
left_place_at None counts p = p
left_place_at (Some e) counts p = left_place e (charged_where counts e p)

-- counts: its attempt is lost
abbrev pub lost_place : ℕ → Bool → Parts → Parts
lost_place number counts p = left_place_at (exchange_at number p.flow) counts p

-- ---- what the request of an exchange is told

-- where it has no reply yet
abbrev pub told : Brought → Seat → Seat
told brought seat = if has_begun seat then seat else record seat { brought = brought }

abbrev pub told_to : Exchange → Brought → Parts → Parts
told_to e brought p = on_seat_where (seat_for e p.seats) (told brought) p

-- its final head came, and its body belongs there
abbrev pub bound_by : ℕ → Option Span → Parts → Parts
bound_by number to p = record p { flow = record p.flow { placed = changed number (bound_to to) p.flow.placed } }

-- what comes is dropped, and its request is decided again
abbrev pub unusable : Exchange → Parts → Parts
unusable e p = told_to e Useless (bound_by e.number None p)

-- an answer that is of no use loses an attempt
abbrev pub made_useless : Exchange → Parts → Parts
made_useless e p = unusable e (lost_attempt e p)

-- ---- a client follows nothing any more

abbrev pub source_of : Seat → Option ObjectId
source_of seat = option_and_then (λ a. a.source) (answer_in seat.stage)

abbrev pub unfollowing : Stage → Stage
unfollowing Undecided = Undecided
unfollowing Waiting = Waiting
unfollowing Passing = Passing
unfollowing (Answering a) = Answering (record a { source = None })

abbrev pub without_source : Seat → Seat
without_source seat = record seat { stage = unfollowing seat.stage }

-- one client less reads from the instance. A retired one leaves memory with its last follower
abbrev pub followed_less : ObjectId → Memory → Memory
followed_less id m = record m {
  instances = left_from id.slot (in_slot id.slot m.instances) m.instances;
  chunks = given_back (is_last (in_slot id.slot m.instances)) id.slot m.chunks;
}

abbrev pub unfollowed : ObjectId → Memory → Memory
unfollowed id m = if is_there id m.instances && nat_lt 0 (followers_of (in_slot id.slot m.instances)) then followed_less id m else m

abbrev pub source_at : ℕ → Parts → Option ObjectId
source_at i p = option_and_then source_of (slice_get p.seats i)

abbrev pub left_source : ℕ → Parts → Parts
left_source i p = elim (source_at i p) [ None ↦ p | Some id ↦ record p { seats = changed_at i without_source p.seats; cache = unfollowed id p.cache } ]

-- ---- attempts count anew for those whose next byte is held and to whom no response is passed

abbrev pub is_held : ObjectId → ℕ → Memory → Bool
is_held id at m = (is_there id m.instances && is_in_memory id.slot at m.chunks) || nat_lt at (extent_of id m)

abbrev pub is_held_next : Option Next → Memory → Bool
is_held_next None m = false
is_held_next (Some next) m = is_held next.source next.at m

abbrev pub is_regained : Memory → Seat → Bool
is_regained m seat = is_held_next (next_of seat) m && not (is_some (passed_in seat.brought))

abbrev pub regained : Memory → Seat → Seat
regained m seat = if is_regained m seat then record seat { course = Trying 0 } else seat

-- of those at these places
abbrev pub all_regained : Memory → List ℕ → List Seat → List Seat
all_regained m [] seats = seats
all_regained m (i ∷ is) seats = all_regained m is (changed_at i (regained m) seats)

-- ---- a client that is to be closed

abbrev pub is_over_at : ℕ → State → Bool
is_over_at i s = elim (slice_get s.seats.items i) [ None ↦ false | Some seat ↦ s.is_stopped || seat.is_closing ]
