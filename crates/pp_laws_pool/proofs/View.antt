-- What laws of numbers speak of, and which changes of it have to keep such a law, so that each step of the law keeps it.
use Rattle.std.proofs.Common.{◌≡◌, ◌⊎◌, ℕ, ◌≤◌, Bool, true, List, [], ◌∷◌, map, filter, find, length, Option, Some, None}
use Rattle.pp_conf.specs.Conf.{Settings}
use Rattle.pp_law.specs.Chunks.{is_chunk, put_chunk}
use Rattle.pp_law.specs.Closing.{left_alone}
use Rattle.pp_law.specs.Connections.{may_ask_again, on_exchange, put_on, unplaced}
use Rattle.pp_law.specs.Deciding.{begin_exchange}
use Rattle.pp_law.specs.Lists.{change}
use Rattle.pp_law.specs.State.{State, Chunk, Client, Conn, Exchange, Owed, Phase, Sent}
use Rattle.pp_laws.specs.Runs.{IsIn}
use Rattle.pp_laws.proofs.Sound.{client_number}

pub record View : Type 0 where
  pub sent : List Sent
  pub settings : Settings
  pub phase : Phase
  pub owed : Owed
  pub is_stopped : Bool
  pub is_evicting : Bool
  pub clients : List Client
  pub conns : List Conn
  pub exchanges : List Exchange
  pub next_exchange : ℕ
  pub chunks : List Chunk

abbrev pub view : State → View
view s = record {
  sent = s.sent;
  settings = s.settings;
  phase = s.phase;
  owed = s.owed;
  is_stopped = s.is_stopped;
  is_evicting = s.is_evicting;
  clients = s.clients;
  conns = s.conns;
  exchanges = s.exchanges;
  next_exchange = s.next_exchange;
  chunks = s.chunks;
}

pub data Holds (P : View → Type 0) (s : State) : Type 0 where
  holds : P (view s) → Holds P s

pub facts_of : {P : View → Type 0} {s : State} → Holds P s → P (view s)
facts_of (holds facts) = facts

-- it goes to the same origin for the same request, from the same place
pub record SameAsk (d e : Exchange) : Type 0 where
  pub number : d.number ≡ e.number
  pub asker : d.asker ≡ e.asker
  pub place : d.place ≡ e.place
  pub key : d.key ≡ e.key
  pub head : d.head ≡ e.head
  pub aim : d.aim ≡ e.aim

-- its line is no longer than it was, and has no other exchange; its answer and what is not read of a head are the same, or none; and
-- it has neither once it is closing
pub record Lesser (j k : Conn) : Type 0 where
  pub number : j.number ≡ k.number
  pub line : length j.line ≤ length k.line
  pub within : (n : ℕ) → IsIn n j.line → IsIn n k.line
  pub answer : (j.answer ≡ k.answer) ⊎ (j.answer ≡ None)
  pub unread : (j.unread ≡ k.unread) ⊎ (j.unread ≡ [])
  pub closing : (j.is_closing ≡ k.is_closing) ⊎ ((j.answer ≡ None) × (j.unread ≡ []))

-- it has the number that is next, no place, and is for a client that is there
pub record IsNew (e : Exchange) (clients : List Client) (next_exchange : ℕ) : Type 0 where
  pub number : e.number ≡ next_exchange
  pub place : e.place ≡ None
  pub asker : ℕ
  pub is : e.asker ≡ Some asker
  pub there : IsIn asker (map client_number clients)

-- the changes that steps are made of
pub record Walk (P : View → Type 0) : Type 0 where
  pub clients : (f : Client → Client) → ((c : Client) → (f c).number ≡ c.number) → (v : View) → P v → P (record v { clients = map f v.clients })
  pub asks : (f : Exchange → Exchange) → ((e : Exchange) → SameAsk (f e) e) → (v : View) → P v → P (record v { exchanges = map f v.exchanges })
  pub left : (test : Exchange → Bool) → (v : View) → P v → P (record v { exchanges = change test left_alone v.exchanges })
  pub over : (test : Exchange → Bool) → (v : View) → P v → P (record v { exchanges = filter test v.exchanges })
  pub conns : (f : Conn → Conn) → ((k : Conn) → Lesser (f k) k) → (v : View) → P v → P (record v { conns = map f v.conns })
  pub chunks : (test : Chunk → Bool) → (v : View) → P v → P (record v { chunks = filter test v.chunks })
  pub again : (n : ℕ) (s : State) → may_ask_again s n ≡ true → P (view s) → P (view (on_exchange n unplaced s))

-- a chunk is used; an exchange gets a place; and one begins
abbrev pub Uses : (View → Type 0) → Type 0
Uses P = (id i : ℕ) (c : Chunk) (v : View) → find (is_chunk id i) v.chunks ≡ Some c → P v → P (record v { chunks = put_chunk id i c.bytes v.chunks })

abbrev pub Places : (View → Type 0) → Type 0
Places P = (n k : ℕ) (s : State) → P (view s) → P (view (put_on n k s))

abbrev pub Begins : (View → Type 0) → Type 0
Begins P = (e : Exchange) (s : State) → IsNew e s.clients s.next_exchange → P (view s) → P (view (begin_exchange e s))
