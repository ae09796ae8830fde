-- What the laws of a turn speak of, and which changes of it have to keep such a law, so that each step of the law keeps it.
use Rattle.std.proofs.Common.{◌≡◌, ◌⊎◌, ℕ, ◌<◌, ◌≤◌, Bool, true, false, List, [], ◌∷◌, ◌++◌, map, filter, length, Option, Some, None, Ok}
use Rattle.std.specs.Prelude.{⊤}
use Rattle.pp_law.specs.Closing.{exchanges_of, is_of, leave_one, left_alone}
use Rattle.pp_law.specs.Connections.{each_exchange, is_client, on_client, put_on}
use Rattle.pp_law.specs.Deciding.{begin_exchange}
use Rattle.pp_law.specs.Lists.{Bytes, change}
use Rattle.pp_law.specs.Requests.{Parsed, IsRequest, goes_alone, is_asked_once}
use Rattle.pp_law.specs.State.{State, Brought, Joins, Client, Conn, Exchange, Instance, Owed, Phase, Keeping, Deciding, Following, Connecting, DecidingAgain}
use Rattle.pp_target.specs.Key.{key_at}
use Rattle.pp_laws.specs.Runs.{IsIn}
use Rattle.pp_laws.proofs.Sound.{instance_id, source_in}

pub record View : Type 0 where
  pub phase : Phase
  pub owed : Owed
  pub clients : List Client
  pub conns : List Conn
  pub exchanges : List Exchange
  pub next_exchange : ℕ
  pub instances : List Instance
  pub next_instance : ℕ

abbrev pub view : State → View
view s = record {
  phase = s.phase;
  owed = s.owed;
  clients = s.clients;
  conns = s.conns;
  exchanges = s.exchanges;
  next_exchange = s.next_exchange;
  instances = s.instances;
  next_instance = s.next_instance;
}

pub data Holds (P : View → Type 0) (s : State) : Type 0 where
  holds : P (view s) → Holds P s

pub facts_of : {P : View → Type 0} {s : State} → Holds P s → P (view s)
facts_of (holds facts) = facts

-- ---- clients

-- a request of which so much of a body is left: its key is that of its target, and where any is left, it is asked once
pub record IsHeardAs (left : ℕ) (r : Parsed) : Type 0 where
  pub key : r.key ≡ key_at r.head.target
  pub once : (left ≡ 0) ⊎ (is_asked_once r.head ≡ true)

-- so its request was heard
abbrev pub IsHeard : Client → Type 0
IsHeard c = (r : Parsed) → c.front ≡ IsRequest r → IsHeardAs c.body_left r

-- the row that its exchange joined
abbrev pub joined_in : Brought → Option ℕ
joined_in (Joins id plain) = Some id
joined_in brought = None

-- it goes on as it did, at the same request, and follows nothing else; nor did its exchange join another row
pub record SameClient (d c : Client) : Type 0 where
  pub number : d.number ≡ c.number
  pub closing : d.is_closing ≡ c.is_closing
  pub source : (id : ℕ) → source_in d.stage ≡ Some id → source_in c.stage ≡ Some id
  pub request : (r : Parsed) → c.front ≡ IsRequest r → d.front ≡ IsRequest r
  pub body : IsHeard c → IsHeard d
  pub joins : (id : ℕ) → joined_in d.brought ≡ Some id → joined_in c.brought ≡ Some id

-- its request leaves its exchange, and it follows nothing
pub record MovesOn (d c : Client) : Type 0 where
  pub number : d.number ≡ c.number
  pub closing : d.is_closing ≡ c.is_closing
  pub source : source_in d.stage ≡ None
  pub body : IsHeard d
  pub joins : joined_in d.brought ≡ None

-- it goes on at the same request
pub record SameRequest (d c : Client) : Type 0 where
  pub number : d.number ≡ c.number
  pub closing : d.is_closing ≡ c.is_closing
  pub request : (r : Parsed) → c.front ≡ IsRequest r → d.front ≡ IsRequest r
  pub body : IsHeard c → IsHeard d
  pub joins : (id : ℕ) → joined_in d.brought ≡ Some id → joined_in c.brought ≡ Some id

-- ---- exchanges

-- it is for the same request, and of one without a place nothing is asked that was not
pub record SameAsk (d e : Exchange) : Type 0 where
  pub number : d.number ≡ e.number
  pub asker : d.asker ≡ e.asker
  pub key : d.key ≡ e.key
  pub head : d.head ≡ e.head
  pub asked : d.place ≡ None → (d.asked ≡ 0) ⊎ ((e.place ≡ None) × (d.asked ≡ e.asked))
  pub body : e.body_left ≡ 0 → d.body_left ≡ 0

-- the request for which it was begun
pub record IsAt (e : Exchange) (c : Client) : Type 0 where
  pub going : c.is_closing ≡ false
  pub request : Parsed
  pub front : c.front ≡ IsRequest request
  pub head : request.head ≡ e.head

-- its client is there, goes on, and stands at that request
pub record Goes (e : Exchange) (n : ℕ) (clients : List Client) : Type 0 where
  pub client : Client
  pub there : IsIn client clients
  pub number : client.number ≡ n
  pub at : IsAt e client

-- its number is the next, it has no place, nothing of it was asked, and its client stands at its request
pub record IsNew (e : Exchange) (clients : List Client) (next : ℕ) : Type 0 where
  pub number : e.number ≡ next
  pub place : e.place ≡ None
  pub asked : e.asked ≡ 0
  pub body : (e.body_left ≡ 0) ⊎ (is_asked_once e.head ≡ true)
  -- its key is that of its request, as each request was heard
  pub key : ((c : Client) → IsIn c clients → IsHeard c) → key_at e.head.target ≡ Ok e.key
  pub asker : ℕ
  pub is : e.asker ≡ Some asker
  pub goes : Goes e asker clients

-- ---- connections

-- its line is no longer than it was, and has no other exchange; it may have several where it might
pub record Lesser (j k : Conn) : Type 0 where
  pub number : j.number ≡ k.number
  pub within : (n : ℕ) → IsIn n j.line → IsIn n k.line
  pub shorter : length j.line ≤ length k.line
  pub pipelines : j.may_pipeline ≡ false → k.may_pipeline ≡ false

-- ---- rows

-- it is what an instance was, and was retired where that was; it came in no later
pub record WasRow (x y : Instance) : Type 0 where
  pub id : x.id ≡ y.id
  pub key : x.key ≡ y.key
  pub is_new : x.is_new ≡ true → y.is_new ≡ true
  pub retired : y.is_retired ≡ true → x.is_retired ≡ true

pub record FromRow (ys : List Instance) (x : Instance) : Type 0 where
  pub was : Instance
  pub there : IsIn was ys
  pub is : WasRow x was

-- a client that goes on is answered from it
abbrev pub IsFollowed : ℕ → List Client → Type 0
IsFollowed id clients = (c : Client) × IsIn c clients × (c.is_closing ≡ false) × (source_in c.stage ≡ Some id)

-- what holds of the key of each that is made; and what holds of any
abbrev pub OfKeys : Type 1
OfKeys = Bytes → Type 0

abbrev pub AnyKey : OfKeys
AnyKey key = ⊤

-- instances as they were, or with the number that is next, and a key of which that holds; and those that are followed are still there
pub record RowsFromOf (K : OfKeys) (v : View) (xs : List Instance) (next : ℕ) : Type 0 where
  pub grows : v.next_instance ≤ next
  pub from : (x : Instance) → IsIn x xs → FromRow v.instances x ⊎ ((x.id ≡ v.next_instance) × (x.id < next))
  pub kept : (id : ℕ) → IsFollowed id v.clients → IsIn id (map instance_id v.instances) → IsIn id (map instance_id xs)
  pub keys : (x : Instance) → IsIn x xs → FromRow v.instances x ⊎ K x.key

abbrev pub RowsFrom : View → List Instance → ℕ → Type 0
RowsFrom v xs next = RowsFromOf AnyKey v xs next

-- ---- the changes that steps are made of

-- nothing new leaves memory in it, nor behind it in this turn
abbrev pub is_late : Phase → Bool
is_late Keeping = true
is_late Deciding = true
is_late Following = true
is_late Connecting = true
is_late DecidingAgain = true
is_late phase = false

abbrev pub KeepsRowsOf : OfKeys → (View → Type 0) → Type 0
KeepsRowsOf K P = (xs : List Instance) (next : ℕ) (v : View) → RowsFromOf K v xs next → P v → P (record v { instances = xs; next_instance = next })

abbrev pub KeepsRows : (View → Type 0) → Type 0
KeepsRows P = KeepsRowsOf AnyKey P

pub record WalkOf (K : OfKeys) (P : View → Type 0) : Type 0 where
  pub clients : (f : Client → Client) → ((c : Client) → SameClient (f c) c) → (v : View) → P v → P (record v { clients = map f v.clients })
  pub asks : (f : Exchange → Exchange) → (v : View) → ((e : Exchange) → IsIn e v.exchanges → SameAsk (f e) e) → P v → P (record v { exchanges = map f v.exchanges })
  pub left : (test : Exchange → Bool) → (v : View) → P v → P (record v { exchanges = change test left_alone v.exchanges })
  pub over : (test : Exchange → Bool) → (v : View) → P v → P (record v { exchanges = filter test v.exchanges })
  pub conns : (f : Conn → Conn) → ((k : Conn) → Lesser (f k) k) → (v : View) → P v → P (record v { conns = map f v.conns })
  pub rows : KeepsRowsOf K P
  pub leaves : (n : ℕ) (f : Client → Client) → ((c : Client) → MovesOn (f c) c) → (v : View) → P v → P (record v { clients = change (is_client n) f v.clients; exchanges = change (is_of n) left_alone v.exchanges })
  pub closes : (n : ℕ) (f : Client → Client) → ((c : Client) → (f c).number ≡ c.number) → ((c : Client) → (f c).is_closing ≡ true) → ((c : Client) → IsHeard c → IsHeard (f c)) → ((c : Client) → (f c).brought ≡ c.brought) → (s : State) → P (view s) → P (view (each_exchange leave_one (exchanges_of n s) (on_client n f s)))
  -- what the exchange of a request brought, into a row that is there
  pub tells : (test : Client → Bool) (b : Brought) (v : View) → ((id : ℕ) → joined_in b ≡ Some id → IsIn id (map instance_id v.instances)) → P v → P (record v { clients = change test (λ c. record c { brought = b }) v.clients })

abbrev pub Walk : (View → Type 0) → Type 0
Walk P = WalkOf AnyKey P

-- an exchange begins, and a client follows a row, in a phase in which nothing new leaves
abbrev pub Begins : (View → Type 0) → Type 0
Begins P = (e : Exchange) (s : State) → IsNew e s.clients s.next_exchange → P (view s) → P (view (begin_exchange e s))

abbrev pub Follows : (View → Type 0) → Type 0
Follows P = (n id : ℕ) (f : Client → Client) → ((c : Client) → SameRequest (f c) c) → ((c : Client) (k : ℕ) → source_in (f c).stage ≡ Some k → k ≡ id) → (v : View) → is_late v.phase ≡ true → IsIn id (map instance_id v.instances) → P v → P (record v { clients = change (is_client n) f v.clients })

-- ---- places

-- the line is empty, or may have several, none of which goes alone
abbrev pub TakesOne : ℕ → Conn → List Exchange → Type 0
TakesOne n k exchanges = (k.line ≡ []) ⊎ ((k.may_pipeline ≡ true) × ((e : Exchange) → IsIn e exchanges → IsIn e.number (k.line ++ n ∷ []) → goes_alone e.head ≡ true → ⊥))

-- it was begun, and the connection of that number takes one more
pub record Takes (n k : ℕ) (conns : List Conn) (exchanges : List Exchange) (next : ℕ) : Type 0 where
  pub given : n < next
  pub each : (j : Conn) → IsIn j conns → j.number ≡ k → TakesOne n j exchanges

-- an exchange gets a place on a connection that takes it
abbrev pub Places : (View → Type 0) → Type 0
Places P = (n k : ℕ) (s : State) → Takes n k s.conns s.exchanges s.next_exchange → P (view s) → P (view (put_on n k s))
