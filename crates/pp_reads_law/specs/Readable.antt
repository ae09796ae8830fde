-- An origin is read: nothing came yet, its connection ended or broke, or bytes came, which answer the exchanges of its line (RFC 2616, sections
-- 4.4, 6, 8.1 and 8.1.4). From where the read is owed, and the event of an origin that can be read, whole: attempts count anew, it is read,
-- replies that are over end, and attempts count anew.
--
-- Where the premises come from: the log obeys the law up to where the read is owed, from which the states amid it are sound. The log has the
-- connection dialled, and not closed (IsOnDialled of pp_world), so that it is there; nobody is closing at a wait (`close_over`), and no reply is
-- over (`AreSettled`). Whose response was begun is as in Breaks of pp_events_law, and that attempts count anew no more as in its Asks. Its client
-- has room, as the wait wanted the connection read (`is_read` of pp_wants), and what it reads into is as long from the opening on (`HasBuffers`
-- of pp_desk). Where bytes came, what is behind the read can be told by all of its moments (IsReadThrough).
use Rattle.std.specs.Prelude.{◌≡◌, ◌<◌, ◌≤◌, ℕ, true, false, [], ◌∷◌, length, slice_get, vec_capacity, List, Some}
use Rattle.pp_cache.specs.Bounds.{IsBounded}
use Rattle.pp_desk.specs.declared.desk.Desk.{Desk}
use Rattle.pp_endings_law.specs.Gone.{IsAnswering}
use Rattle.pp_events_law.specs.Hears.{AreSettled}
use Rattle.pp_events_law.specs.Ready.{StaysReady}
use Rattle.pp_events_law.specs.Stands.{AreReadyAt, HasLed, HasLedBehind, StandsAtEvent, come}
use Rattle.pp_law.specs.After.{event, owing}
use Rattle.pp_law.specs.Asking.{is_read, read_room}
use Rattle.pp_law.specs.Connections.{conn}
use Rattle.pp_law.specs.Lists.{Bytes}
use Rattle.pp_law.specs.Replies.{end_replies, regained}
use Rattle.pp_law.specs.Responses.{got}
use Rattle.pp_law.specs.State.{State, Answer, Conn, Term, Awaiting, Handling, Free, ReadOf}
use Rattle.pp_links.specs.Links.{IsLinked}
use Rattle.pp_obeys.specs.Obeys.{Obeys}
use Rattle.pp_origins.specs.Gots.{Both, EndsBehind, HasGot, Makes, both}
use Rattle.pp_proxy.specs.Handling.{Handles, ReceivesOn, Wakes}
use Rattle.pp_proxy.specs.Moving.{Turning, at_desk}
use Rattle.pp_seats.specs.declared.seat.Seat.{Seat}
use Rattle.pp_state.specs.declared.state.State.{State as Turn}
use Rattle.pp_turns_law.specs.Turns.{IsFollowing}
use Rattle.pp_world.specs.Log.{AppendsAll, Log}
use Rattle.pp_world.specs.declared.event.Event.TheVariants.{Readable}
use Rattle.pp_world.specs.declared.happening.Happening.TheVariants.{CanRead, Got}
use Rattle.pp_reads_law.specs.Brings.{ReadEnds, ReadRestsOn}
use Rattle.pp_reads_law.specs.Goes.{AllGoOn}

-- ---- what a read rests on

pub record MayRead (k : ℕ) (x : Turning) (s : State) (j : Conn) : Type 0 where
  pub there : conn s k ≡ Some j
  pub going : j.is_closing ≡ false
  pub answers : (a : Answer) → j.answer ≡ Some a → IsAnswering s j
  pub room : 0 < read_room s k
  pub long : length x.moving.desk.buffer.items ≡ 32768
  pub holds : 32768 ≤ vec_capacity x.moving.desk.«data»
  pub anew : regained s ≡ s
  pub linked : IsLinked x.log x.moving.top x.moving.links
  pub settled : AreSettled x.moving.desk.state.seats.items
  pub next : AllGoOn s

-- ---- and what the bytes rest on that it brings, beside each moment of `Brings`

-- behind them what each client follows is there: a row that is followed leaves memory by no step of a read (Named of `pp_comes_law`)
abbrev pub AreFollowed : Turn → Type 0
AreFollowed p = (i : ℕ) (seat : Seat) → slice_get p.seats.items i ≡ Some seat → seat.is_closing ≡ false → IsFollowing p.cache seat

-- these came, as the log has it, and there was room for them
pub record IsBrought (k : ℕ) (x y : Turning) (s : State) (bytes : Bytes) : Type 0 where
  pub told : AppendsAll x.log y.log (λ l. Got k bytes ∷ [])
  pub fits : is_read (read_room s k) bytes ≡ true

pub record MayBring (k : ℕ) (x y : Turning) (s : State) : Type 0 where
  pub rests : (begins next : Both) (bytes : Bytes) → IsBrought k x y s bytes → Makes (λ z. z) (both x.moving.desk) begins → HasGot x.shelf k bytes begins next → next.state.is_astray ≡ false → ReadRestsOn x.moving.desk.state.name.items x.shelf k begins s bytes next
  pub followed : (begins next : Both) (bytes : Bytes) → IsBrought k x y s bytes → Makes (λ z. z) (both x.moving.desk) begins → HasGot x.shelf k bytes begins next → next.state.is_astray ≡ false → AreFollowed next.state

-- ---- where it leads

-- bytes came: all moments of the read stand between where it began and where it ended, behind which replies that are over end
pub record IsReadThrough (k : ℕ) (x y : Turning) (s : State) (bytes : Bytes) (handled : State) : Type 0 where
  pub begins : Both
  pub next : Both
  pub same : Makes (λ z. z) (both x.moving.desk) begins
  pub brought : IsBrought k x y s bytes
  pub got_all : HasGot x.shelf k bytes begins next
  pub behind : EndsBehind (λ z. z) next (both y.moving.desk)
  pub straight : next.state.is_astray ≡ false
  pub ends : ReadEnds x.moving.desk.state.name.items x.shelf k begins s bytes next (got (length bytes) k bytes s)
  pub law : handled ≡ record (end_replies (got (length bytes) k bytes s)) { owed = Free }

-- by whatever it adds. A row that came with it has a number, so that the numbers may be others. Each client that goes on can be decided
-- behind it
pub record HasLedTold (k : ℕ) (x y : Turning) (s : State) : Type 0 where
  pub number : ℕ → ℕ
  pub led : HasLed number x y s
  pub ready : StaysReady number x y led.then
  pub through : (bytes : Bytes) → led.log ≡ Got k bytes ∷ [] → IsReadThrough k x y s bytes led.handled.handled.handled

-- the turn as it is woken, in which all of it is read through
pub record IsReadAwake (k : ℕ) (x y : Turning) (s : State) (bytes : Bytes) (handled : State) : Type 0 where
  pub woken : Desk
  pub wakes : Wakes k x.moving.desk woken
  pub through : IsReadThrough k (at_desk woken x) y (event (owing (ReadOf k) k s)) bytes handled

-- the same from the wait on, which added the event itself before
pub record HasLedToldBehind (k : ℕ) (x y : Turning) (s : State) : Type 0 where
  pub number : ℕ → ℕ
  pub led : HasLedBehind number (CanRead k) x y s
  pub ready : StaysReady number x y led.then
  pub through : (bytes : Bytes) → led.log ≡ Got k bytes ∷ [] → IsReadAwake k x y s bytes led.handled.handled

-- from where the read is owed, where this life does not go astray in it
abbrev pub ReadingsLead : Type 0
ReadingsLead = (terms : List Term) (log : Log) (number : ℕ → ℕ) (k : ℕ) (x y : Turning) (s : State) (j : Conn) → Obeys terms s log → StandsAtEvent number Handling (ReadOf k) x.moving s → AreReadyAt number x.moving s → MayRead k x s j → MayBring k x y s
    → IsBounded y.moving.desk.state.cache → y.moving.desk.state.is_astray ≡ false → ReceivesOn k x y → HasLedTold k x y s

-- ---- from the wait on

-- of the connection as it stands at the wait
pub record MayBeRead (k : ℕ) (x : Turning) (s : State) (j : Conn) : Type 0 where
  pub there : conn s k ≡ Some j
  pub going : j.is_closing ≡ false
  pub answers : (a : Answer) → j.answer ≡ Some a → IsAnswering s j
  pub room : 0 < read_room s k
  pub long : length x.moving.desk.buffer.items ≡ 32768
  pub holds : 32768 ≤ vec_capacity x.moving.desk.«data»
  pub linked : IsLinked x.log x.moving.top x.moving.links
  pub settled : AreSettled x.moving.desk.state.seats.items
  pub next : AllGoOn s

-- what bytes rest on is that of the turn as it stands once it is woken
abbrev pub OriginReadsLead : Type 0
OriginReadsLead = (terms : List Term) (log : Log) (number : ℕ → ℕ) (k : ℕ) (x y : Turning) (s : State) (j : Conn) → Obeys terms s log → StandsAtEvent number Awaiting Free x.moving s → AreReadyAt number x.moving s → MayBeRead k x s j
    → ((woken : Desk) → Wakes k x.moving.desk woken → MayBring k (at_desk woken x) y (event (owing (ReadOf k) k s))) → IsBounded y.moving.desk.state.cache → y.moving.desk.state.is_astray ≡ false → Handles (Readable k) (come (Readable k) x) y → HasLedToldBehind k x y s
