-- What each step of the law keeps, of the records that it speaks of.
use Rattle.std.proofs.Common.{◌≡◌, ◌⊎◌, ℕ, ◌+◌, ◌<◌, ◌≤◌, Bool, true, false, List, [], ◌∷◌, map, length, Option, Some, None}
use Rattle.pp_framing.specs.declared.body.BodyRule.TheVariants.{Empty}
use Rattle.pp_target.specs.Key.{Key, text_of}
use Rattle.pp_law.specs.Lists.{Bytes}
use Rattle.pp_law.specs.OwnHeads.{key_of, first_offset}
use Rattle.pp_law.specs.Requests.{key_in}
use Rattle.pp_law.specs.Responses.{payload_of}
use Rattle.pp_law.specs.Stages.{is_passing, bound_of, is_headed}
use Rattle.pp_law.specs.State.{State, Sent, Aim, Through, Own, Filling, Answer, Client, Stage, Undecided, Waiting, Passing, Answering, Conn, Exchange, Instance, Chunk, Bound}
use Rattle.pp_law.specs.Table.{is_row_of}
use Rattle.pp_laws.specs.Numbers.{AreDistinct, AreRising}
use Rattle.pp_laws.specs.Origin.{IsBackPart}
use Rattle.pp_laws.specs.Runs.{IsIn}
use Rattle.pp_laws.proofs.Joins.{HeldOf}

-- what was sent before; whether what is loaded counts as sent; and an exchange whose answer is not looked at while it changes
pub record Since : Type 0 where
  pub old : List Sent
  pub counts_loads : Bool
  pub excepts : Option ℕ

abbrev pub conn_number : Conn → ℕ
conn_number k = k.number

abbrev pub exchange_number : Exchange → ℕ
exchange_number e = e.number

abbrev pub instance_id : Instance → ℕ
instance_id x = x.id

abbrev pub client_number : Client → ℕ
client_number c = c.number

abbrev pub first_of : List ℕ → Option ℕ
first_of [] = None
first_of (n ∷ ns) = Some n

-- what its response brings is put on record
abbrev pub is_noted : Aim → Bool
is_noted Through = false
is_noted Own = true
is_noted (Filling v from to) = true

-- the data of an answer are bytes of this instance, and the next ones go there; or it has none
abbrev pub Fitting : Answer → Bound → Instance → Type 0
Fitting a to x = ((a.version ≡ Some x.version) × (to.next ≡ first_offset a.head + length (payload_of a))) ⊎ (a.rule ≡ Empty)

-- an exchange that is bound is the first of its line, and its answer is under way
pub record Brings (instances : List Instance) (k : Conn) (e : Exchange) (to : Bound) : Type 0 where
  pub front : first_of k.line ≡ Some e.number
  pub answer : Answer
  pub is : k.answer ≡ Some answer
  pub fits : (x : Instance) → IsIn x instances → x.id ≡ to.instance → Fitting answer to x

pub record Lines (conns : List Conn) (top : ℕ) (next_exchange : ℕ) : Type 0 where
  pub rise : AreRising (map conn_number conns)
  pub given : (k : Conn) → IsIn k conns → k.number ≤ top
  pub asked : (k : Conn) (n : ℕ) → IsIn k conns → IsIn n k.line → n < next_exchange

pub record Asks (exchanges : List Exchange) (next_exchange : ℕ) (next_instance : ℕ) : Type 0 where
  pub rise : AreRising (map exchange_number exchanges)
  pub given : (e : Exchange) → IsIn e exchanges → e.number < next_exchange
  pub bounds : (e : Exchange) (to : Bound) → IsIn e exchanges → bound_of e ≡ Some to → to.instance < next_instance
  pub noted : (e : Exchange) (to : Bound) → IsIn e exchanges → bound_of e ≡ Some to → is_noted e.aim ≡ true
  pub unplaced : (e : Exchange) → IsIn e exchanges → e.place ≡ None → bound_of e ≡ None
  pub unheaded : (e : Exchange) → IsIn e exchanges → is_headed e ≡ false → bound_of e ≡ None

pub record Rows (instances : List Instance) (next_instance : ℕ) (chunks : List Chunk) : Type 0 where
  pub differ : AreDistinct (map instance_id instances)
  pub given : (x : Instance) → IsIn x instances → x.id < next_instance
  -- a key has one row at most
  pub own_keys : (key : Bytes) (x y : Instance) → IsIn x instances → IsIn y instances → is_row_of key x ≡ true → is_row_of key y ≡ true → x.id ≡ y.id
  pub chunks_given : (c : Chunk) → IsIn c chunks → c.instance < next_instance

-- the instance that a client is answered from
abbrev pub source_in : Stage → Option ℕ
source_in Undecided = None
source_in Waiting = None
source_in Passing = None
source_in (Answering r) = r.source

-- its reply is one that is passed
abbrev pub passes_in : Stage → Bool
passes_in Undecided = false
passes_in Waiting = false
passes_in Passing = false
passes_in (Answering r) = is_passing r.decision

-- it is of the key that the client's request names
pub record Follows (c : Client) (id : ℕ) (instances : List Instance) (next_instance : ℕ) : Type 0 where
  pub is_kept : passes_in c.stage ≡ false
  pub given : id < next_instance
  pub key : Key
  pub asks : key_in c.front ≡ Some key
  pub same_key : (x : Instance) → IsIn x instances → x.id ≡ id → x.key ≡ text_of key

pub record Callers (clients : List Client) (top : ℕ) (instances : List Instance) (next_instance : ℕ) : Type 0 where
  pub rise : AreRising (map client_number clients)
  pub given : (c : Client) → IsIn c clients → c.number ≤ top
  pub follows : (c : Client) (id : ℕ) → IsIn c clients → source_in c.stage ≡ Some id → Follows c id instances next_instance

pub record Facts (b : Since) (sent : List Sent) (clients : List Client) (conns : List Conn) (top : ℕ) (exchanges : List Exchange) (next_exchange : ℕ) (instances : List Instance) (next_instance : ℕ) (chunks : List Chunk) : Type 0 where
  pub grew : IsBackPart b.old sent
  pub lines : Lines conns top next_exchange
  pub asks : Asks exchanges next_exchange next_instance
  pub rows : Rows instances next_instance chunks
  -- an exchange stands in the line of its place
  pub placed : (k : Conn) (e : Exchange) → IsIn k conns → IsIn e exchanges → IsIn e.number k.line → e.place ≡ Some k.number
  pub brings : (k : Conn) (e : Exchange) (to : Bound) → IsIn k conns → IsIn e exchanges → IsIn e.number k.line → bound_of e ≡ Some to → ¬ (b.excepts ≡ Some e.number) → Brings instances k e to
  pub keyed : (e : Exchange) (to : Bound) (x : Instance) → IsIn e exchanges → bound_of e ≡ Some to → IsIn x instances → x.id ≡ to.instance → x.key ≡ key_of e
  pub callers : Callers clients top instances next_instance
  pub held : b.counts_loads ≡ true → (x : Instance) → IsIn x instances → HeldOf sent x.key x.version x.id chunks

abbrev pub FactsOf : Since → State → Type 0
FactsOf b s = Facts b s.sent s.clients s.conns s.top s.exchanges s.next_exchange s.instances s.next_instance s.chunks

pub data Sound (b : Since) (s : State) : Type 0 where
  sound : FactsOf b s → Sound b s

pub facts_of : {b : Since} {s : State} → Sound b s → FactsOf b s
facts_of (sound facts) = facts
