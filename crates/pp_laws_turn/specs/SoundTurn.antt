-- What holds in each state that a lawful log may go on as from, also amid a turn, where phases are done that no happening shows. What is
-- not marked is ours.
use Rattle.std.specs.Prelude.{◌≡◌, ℕ, ◌<◌, ◌≤◌, ◌==◌, Bool, true, false, [], ◌∷◌, count_by, find, length, List, Some, None, Ok}
use Rattle.pp_law.specs.Closing.{is_of}
use Rattle.pp_law.specs.Connections.{client, is_client, is_conn, is_exchange}
use Rattle.pp_law.specs.Lists.{Bytes}
use Rattle.pp_law.specs.Phases.{is_free}
use Rattle.pp_law.specs.Requests.{Parsed, IsRequest, goes_alone}
use Rattle.pp_law.specs.Stages.{reply_of}
use Rattle.pp_law.specs.State.{State, Term, Joins, Client, Conn, Exchange, Instance, Reply, Awaiting, Handling, Free}
use Rattle.pp_law.specs.Table.{instance, is_instance, is_row_of}
use Rattle.pp_target.specs.Key.{key_at}
use Rattle.pp_world.specs.Log.{Log}
use Rattle.pp_laws.specs.Numbers.{HasOwnNumbers}
use Rattle.pp_laws.specs.Runs.{IsIn}
use Rattle.pp_laws_asks.specs.Asks.{HasFewExchanges, HasFewWaiting}
use Rattle.pp_laws_bounds.specs.Bounds.{HasFewBodies, HasFewClients, HasFewConnections, HasFewPins, HasFewRows, HasShortLines, KeepsToHosts}
use Rattle.pp_obeys.specs.Obeys.{Obeys}

-- ---- numbers

-- at most one of each has a number
pub record AreToldApart (s : State) : Type 0 where
  pub clients : (n : ℕ) → count_by (is_client n) s.clients ≤ 1
  pub conns : (n : ℕ) → count_by (is_conn n) s.conns ≤ 1
  pub exchanges : (n : ℕ) → count_by (is_exchange n) s.exchanges ≤ 1
  pub instances : (n : ℕ) → count_by (is_instance n) s.instances ≤ 1

-- ---- how much there is

pub record IsBounded (s : State) : Type 0 where
  -- 256 clients
  pub clients : HasFewClients s
  -- 64 connections to origins, and to each host and port as many as the setting says
  pub conns : HasFewConnections s
  pub hosts : KeepsToHosts s
  -- 8 asks in a line
  pub lines : HasShortLines s
  -- 256 exchanges that are waited for or have no place, and until Stop 768 in all
  pub waiting : HasFewWaiting s
  pub exchanges : HasFewExchanges s
  -- 1,024 rows, 64 bodies that belong to one, and 320 pins
  pub rows : HasFewRows s
  pub bodies : HasFewBodies s
  pub pins : HasFewPins s

-- ---- clients, and what they ask for

-- what it is answered from is there
abbrev pub HasSource : State → Client → Type 0
HasSource s c = (r : Reply) (id : ℕ) → reply_of c ≡ Some r → r.source ≡ Some id → (x : Instance) × (instance s id ≡ Some x)

-- the client whose request it is for is there, goes on, and stands at that very request
pub record HasAsker (s : State) (e : Exchange) (n : ℕ) : Type 0 where
  pub asker : Client
  pub there : client s n ≡ Some asker
  pub going : asker.is_closing ≡ false
  pub request : Parsed
  pub front : asker.front ≡ IsRequest request
  pub head : request.head ≡ e.head

-- it stands in the line of its place
pub record IsInLine (s : State) (e : Exchange) (n : ℕ) : Type 0 where
  pub place : Conn
  pub there : IsIn place s.conns
  pub number : place.number ≡ n
  pub here : IsIn e.number place.line

-- where an event is awaited nothing is owed, and nobody said Stop
pub record IsAtRest (s : State) : Type 0 where
  pub free : s.owed ≡ Free
  pub going : s.is_stopped ≡ false

-- ---- all

pub record IsSoundTurn (s : State) : Type 0 where
  -- numbers are distinct, and below the next that is given
  pub numbers : HasOwnNumbers s
  pub apart : AreToldApart s
  -- there is no more of anything than so many
  pub bounded : IsBounded s
  -- a key has one row at most
  pub rows : (key : Bytes) (x y : Instance) → IsIn x s.instances → IsIn y s.instances → is_row_of key x ≡ true → is_row_of key y ≡ true → x.id ≡ y.id
  -- what an event is owed is owed while that is handled
  pub owes : is_free s.owed ≡ false → s.phase ≡ Handling
  pub awaits : s.phase ≡ Awaiting → IsAtRest s
  -- one that is closing has no line
  pub closed : (k : Conn) → IsIn k s.conns → k.is_closing ≡ true → k.line ≡ []
  -- an exchange stands in the line of its place alone, and until Stop in that
  pub placed : (k : Conn) (e : Exchange) → IsIn k s.conns → IsIn e s.exchanges → IsIn e.number k.line → e.place ≡ Some k.number
  pub lined : (e : Exchange) (n : ℕ) → s.is_stopped ≡ false → IsIn e s.exchanges → e.place ≡ Some n → IsInLine s e n
  -- one that goes alone has no other in its line (RFC 2616, section 8.1.2.2)
  pub by_itself : (k : Conn) (e : Exchange) → IsIn k s.conns → IsIn e s.exchanges → IsIn e.number k.line → goes_alone e.head ≡ true → k.line ≡ e.number ∷ []
  -- and so goes one that has a body, as long as any of it is left to be asked
  pub bodies : (e : Exchange) → IsIn e s.exchanges → (e.body_left == 0) ≡ false → goes_alone e.head ≡ true
  -- a line has several only behind a response that shows that it may
  pub pipelines : (k : Conn) → IsIn k s.conns → k.may_pipeline ≡ false → length k.line ≤ 1
  -- a request has one exchange at most
  pub once : (n : ℕ) → count_by (is_of n) s.exchanges ≤ 1
  -- what a client is answered from is there, as long as it goes on
  pub sources : (c : Client) → IsIn c s.clients → c.is_closing ≡ false → HasSource s c
  -- a row that the response to its exchange belongs to was made before
  pub made : (c : Client) (id : ℕ) (plain : Bool) → IsIn c s.clients → c.brought ≡ Joins id plain → id < s.next_instance
  -- a client that is closing asks nothing
  pub alone : (c : Client) → IsIn c s.clients → c.is_closing ≡ true → find (is_of c.number) s.exchanges ≡ None
  -- of an exchange without a place nothing was asked
  pub rests : (e : Exchange) → IsIn e s.exchanges → e.place ≡ None → (e.asked == 0) ≡ true
  -- an exchange that is somebody's is for a client that goes on, at the request that it was begun for
  pub askers : (e : Exchange) (n : ℕ) → IsIn e s.exchanges → e.asker ≡ Some n → HasAsker s e n
  -- and somebody's or not, its key is that of the target of that request (RFC 2616, section 5.1.2)
  pub keyed : (e : Exchange) → IsIn e s.exchanges → key_at e.head.target ≡ Ok e.key
  -- so the key of each instance has 8,192 bytes at most
  pub short : (x : Instance) → IsIn x s.instances → length x.key ≤ 8192

abbrev pub TurnsAreSound : Type 0
TurnsAreSound = (terms : List Term) (s : State) (log : Log) → Obeys terms s log → IsSoundTurn s
