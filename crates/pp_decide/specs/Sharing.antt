-- One fetch for many (ours): a request waits once for what another has asked for already.
use Rattle.std.specs.Prelude.{ℕ, Bool, true, false, ◌&&◌, not, cond, min, List, ◌++◌, bytes_eq, is_some, Option, Some, None}
use Rattle.std.specs.List.{filter_map, find, reduce}
use Rattle.pp_flow.specs.Changes.{Exchanges, entry_of, first_of}
use Rattle.pp_flow.specs.Entries.{is_asked_by}
use Rattle.pp_flow.specs.declared.errand.Kind.{Kind}
use Rattle.pp_flow.specs.declared.errand.Kind.TheVariants.{Whole, Range, Hole as AsHole, Check, Pass as AsPassed}
use Rattle.pp_flow.specs.declared.entry.Aim.{Aim}
use Rattle.pp_flow.specs.declared.entry.Aim.TheVariants.{Own, Hole, Pass as Through}
use Rattle.pp_flow.specs.declared.entry.Entry.{Entry}
use Rattle.pp_seats.specs.Dues.{may_share, undecided_in}
use Rattle.pp_seats.specs.Heads.{asked_in, owned_in, is_there_in}
use Rattle.pp_seats.specs.declared.key.Key.{Key}
use Rattle.pp_seats.specs.declared.seat.Seat.{Seat}
use Rattle.pp_seats.specs.declared.seat.Shared.{Shared}
use Rattle.pp_decide.specs.Patience.{is_patient}
use Rattle.pp_world.specs.declared.note.Decision.{Decision}
use Rattle.pp_seats.specs.Seats.{is_undecided_in}
use Rattle.pp_decide.specs.Decide.{decide}
use Rattle.pp_state.specs.declared.state.State.{State}

abbrev pub is_own : Aim → Bool
is_own Own = true
is_own (Hole v from to) = false
is_own Through = false

abbrev pub asks_part : Kind → Bool
asks_part Whole = false
asks_part (Range first last) = true
asks_part (AsHole first last tag) = true
asks_part (Check tag) = false
asks_part AsPassed = false

-- an ask for the whole of the key, or a check of it, whose answer has not come
abbrev pub is_shared : List ℕ → Entry → Bool
is_shared key e = is_own e.exchange.aim && not e.exchange.headed && not (asks_part e.errand.kind) && bytes_eq e.key.items key

abbrev pub shared_number : List ℕ → Entry → Option ℕ
shared_number key e = cond (is_shared key e) (Some e.exchange.number) None

-- of two, the one that began first
abbrev pub earlier : Option ℕ → ℕ → ℕ
earlier None number = number
earlier (Some first) number = min first number

-- of all of them, the one that began first
abbrev pub shared_for : Option Key → Exchanges → Option ℕ
shared_for None f = None
shared_for (Some key) f = reduce min (filter_map (shared_number key.text.items) (f.waiting ++ f.placed))

abbrev pub shared_ask : Seat → Exchanges → Option ℕ
shared_ask seat f = shared_for (owned_in (asked_in seat.front)) f

abbrev pub is_unanswered : Option Entry → Bool
is_unanswered None = false
is_unanswered (Some e) = not e.exchange.headed

-- the exchange that it waited for is there, and its answer has not come
abbrev pub is_awaited : ℕ → Exchanges → Bool
is_awaited number f = is_unanswered (entry_of number f)

-- it waits for another's answer, and may wait on
abbrev pub may_wait_on : Option Shared → ℕ → Exchanges → Bool
may_wait_on None now f = false
may_wait_on (Some w) now f = is_patient (is_awaited w.exchange f) now w.since

-- it waits on; or what it names is asked already
abbrev pub has_shared_ask : Option Shared → Seat → ℕ → Exchanges → Bool
has_shared_ask None seat now f = is_some (shared_ask seat f)
has_shared_ask (Some w) seat now f = may_wait_on (Some w) now f

-- what it asks is asked already, where fetches are shared, and it may be another's
abbrev pub is_asked : Bool → Option Decision → Seat → Exchanges → Bool
is_asked shares None seat f = false
is_asked shares (Some d) seat f = shares && may_share d && is_some (shared_ask seat f)

-- its current request asks one
abbrev pub has_asked : ℕ → Exchanges → Bool
has_asked client f = is_some (first_of (find (is_asked_by client) f.waiting) (find (is_asked_by client) f.placed))

-- ---- what is due to a request that is not decided

-- what was decided first: a request waits once for what is asked already
abbrev pub due_undecided : State → Seat → Option Decision
due_undecided s seat = undecided_in seat.waits_on (may_wait_on seat.waits_on s.now s.flow) s.shares_fetches (is_some (shared_ask seat s.flow)) (decide s seat)

-- where nothing is due, it waits for the answer to another client's ask
abbrev pub is_sharing : State → Seat → Bool
is_sharing s seat = is_undecided_in seat.stage && is_there_in seat.front && has_shared_ask seat.waits_on seat s.now s.flow
