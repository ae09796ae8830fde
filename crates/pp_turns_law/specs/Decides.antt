-- What a decision that is taken leaves is what the law makes of it (RFC 2616, sections 6, 8.1.4 and 13).
use Rattle.std.specs.Prelude.{◌≡◌, ◌≤◌, ℕ, Bool, true, false, find, is_some, length, slice_get, Option, Some, None}
use Rattle.pp_law.specs.Closing.{is_of, leave}
use Rattle.pp_law.specs.Connections.{is_client}
use Rattle.pp_law.specs.Deciding.{ask_origin, mark_row_of, refuse, relay}
use Rattle.pp_law.specs.Lists.{Bytes}
use Rattle.pp_law.specs.State.{State, Client}
use Rattle.pp_law.specs.Table.{row, row_on_disk}
use Rattle.pp_objects.specs.Instances.{is_there}
use Rattle.pp_objects.specs.declared.id.ObjectId.{ObjectId}
use Rattle.pp_reply.specs.Texts.{has_page}
use Rattle.pp_seats.specs.Decided.{page_for}
use Rattle.pp_seats.specs.Heads.{asked_in, owned_in}
use Rattle.pp_seats.specs.declared.key.Key.{Key}
use Rattle.pp_seats.specs.declared.seat.Seat.{Seat}
use Rattle.pp_seats.specs.Dues.{is_refused_in}
use Rattle.pp_seats_law.specs.Decided.{MayBeDecided}
use Rattle.pp_states_law.specs.Decisions.{AsksOnce}
use Rattle.pp_world.specs.declared.note.Decision.{Decision}
use Rattle.pp_take.specs.Deciding.{IsRefused, ask_at, marked_at, may_ask, origin_asked, relayed}
use Rattle.pp_state.specs.Ends.{Parts, left_at_decision, source_at}
use Rattle.pp_state.specs.Passing.{may_answer}
use Rattle.pp_states_law.specs.Steps.{OfSteps, ShowsSteps}

-- the client at this place, and that of the law
pub record IsAtPlace (i : ℕ) (p : Parts) (s : State) (seat : Seat) (c : Client) : Type 0 where
  pub here : slice_get p.seats i ≡ Some seat
  pub there : find (is_client seat.client.id) s.clients ≡ Some c

-- a decision is taken for it: it goes on, no reply has begun, and it has one exchange at most
pub record IsDecided (i : ℕ) (p : Parts) (s : State) (seat : Seat) (c : Client) : Type 0 where
  pub place : IsAtPlace i p s seat c
  pub going : c.is_closing ≡ false
  pub may : MayBeDecided seat c
  pub asks : AsksOnce c.number s

-- each decision but one for want of memory marks the row of its key
abbrev pub MarksAreTheLaws : Type 0
MarksAreTheLaws = OfSteps (λ number name l peers p s. (i : ℕ) (seat : Seat) (key : Key) → slice_get p.seats i ≡ Some seat → owned_in (asked_in seat.front) ≡ Some key → ShowsSteps number name l peers (marked_at i p) (mark_row_of key.text.items s))

-- the request leaves the exchange that it asked
abbrev pub LeavesAreTheLaws : Type 0
LeavesAreTheLaws = OfSteps (λ number name l peers p s. (i : ℕ) (seat : Seat) (c : Client) → IsAtPlace i p s seat c → AsksOnce c.number s → ShowsSteps number name l peers (left_at_decision i p) (leave (is_of c.number) s))

-- what it follows is there
abbrev pub FollowsWhatIsThere : ℕ → Parts → Type 0
FollowsWhatIsThere i p = (id : ObjectId) → source_at i p ≡ Some id → is_there id p.cache.instances ≡ true

-- and its page has room
pub record MayRefuse (i status : ℕ) (p : Parts) (seat : Seat) : Type 0 where
  pub page : has_page status ≡ true
  pub room : length (page_for status seat.front) ≤ 20480
  pub answers : may_answer seat.client ≡ true
  pub there : FollowsWhatIsThere i p

-- a page is the reply, whatever the operator's log is to say of it
abbrev pub RefusalsAreTheLaws : Type 0
RefusalsAreTheLaws = OfSteps (λ number name l peers p s. (i status : ℕ) (seat : Seat) (c : Client) (new : Parts) → IsDecided i p s seat c → MayRefuse i status p seat → IsRefused i status p new → ShowsSteps number name l peers new (refuse c status s))

-- it asks an origin: its row was not refused memory, there may be another exchange, what it asks fits into an ask, and the kept row of
-- its key is in memory
pub record MayAsk (name : Bytes) (i : ℕ) (d : Decision) (p : Parts) (s : State) (seat : Seat) : Type 0 where
  pub given : is_refused_in seat.brought ≡ false
  pub there : FollowsWhatIsThere i p
  pub room : may_ask p.flow ≡ true
  pub asks : is_some (ask_at name i d p) ≡ true
  pub kept : (key : Key) → owned_in (asked_in seat.front) ≡ Some key → row s key.text.items ≡ None → row_on_disk s key.text.items ≡ None
  pub named : name ≡ s.settings.name

-- the exchange begins, and the request waits for it
abbrev pub AsksAreTheLaws : Type 0
AsksAreTheLaws = OfSteps (λ number name l peers p s. (i : ℕ) (d : Decision) (seat : Seat) (c : Client) → IsDecided i p s seat c → MayAsk name i d p s seat → ShowsSteps number name l peers (origin_asked name i d p) (ask_origin c d s))

-- a response that is passed is its reply, and it follows nothing any more
abbrev pub RelaysAreTheLaws : Type 0
RelaysAreTheLaws = OfSteps (λ number name l peers p s. (i : ℕ) (seat : Seat) (c : Client) → IsDecided i p s seat c → is_refused_in seat.brought ≡ false → FollowsWhatIsThere i p → ShowsSteps number name l peers (relayed i p) (relay c s))
