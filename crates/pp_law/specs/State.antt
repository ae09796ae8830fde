-- What a log says so far: of all lives, of this life, and of this turn. `after` takes it over one happening.
use Rattle.std.specs.Prelude.{ℕ, Bool, false, List, [], Option, None}
use Rattle.pp_conf.specs.Conf.{Settings, defaults}
use Rattle.pp_fresh.specs.declared.aging.Times.{Times}
use Rattle.pp_framing.specs.declared.body.BodyRule.{BodyRule}
use Rattle.pp_head.specs.Request.{Request}
use Rattle.pp_head.specs.Response.{Response}
use Rattle.pp_pass.specs.Pipe.{Pipe}
use Rattle.pp_target.specs.Key.{Key}
use Rattle.pp_text.specs.Fields.{Field}
use Rattle.pp_valid.specs.declared.version.Version.{Version}
use Rattle.pp_world.specs.Log.{Log}
use Rattle.pp_world.specs.declared.note.Decision.{Decision}
use Rattle.pp_world.specs.declared.op.DiskOp.{DiskOp}
use Rattle.pp_law.specs.Lists.{Bytes}
use Rattle.pp_law.specs.Requests.{Front}

-- ---- all lives

-- an origin sent these bytes, from that offset on, for that key, under that version
pub record Sent : Type 0 where
  pub key : Bytes
  pub version : Version
  pub at : ℕ
  pub bytes : Bytes

-- how a life is started: the words behind the program's name, and how often the outside fails in it
pub record Term : Type 0 where
  pub words : List Bytes
  pub faults : ℕ

-- ---- the table

-- the bytes of one version of a key, known in part: the row of the key, or a retired version that a client still follows
pub record Instance : Type 0 where
  pub id : ℕ
  pub key : Bytes
  pub version : Version
  pub fields : List Field
  pub times : Times
  pub is_retired : Bool
  pub is_new : Bool  -- a response made it or brought it into memory in this turn

-- the front of a chunk, in memory
pub record Chunk : Type 0 where
  pub instance : ℕ
  pub index : ℕ
  pub bytes : Bytes

-- what the store holds under a name; it is stale once its row was replaced or cleared
pub record Entry : Type 0 where
  pub name : Bytes
  pub key : Bytes
  pub version : Version
  pub fields : List Field
  pub times : Times
  pub extent : ℕ
  pub is_stale : Bool

-- ---- exchanges and their connections

-- a request that is passed; what an own exchange asks: the whole, a check or a range; or bytes that a follower wants
pub data Aim : Type 0 where
  Through : Aim
  Own : Aim
  Filling : Version → ℕ → ℕ → Aim

-- the instance that the body belongs to, the half-open span that is still to come, how far it was wanted, and whether a part of it
-- was asked for and the whole comes: that origin gives no ranges for it (RFC 7233, section 3.1)
pub record Bound : Type 0 where
  pub instance : ℕ
  pub next : ℕ
  pub to : ℕ
  pub wanted : ℕ
  pub is_all : Bool

-- what becomes of the body of a response: its head has not come; it joins an instance; it is passed; it is dropped as it comes
pub data Body : Type 0 where
  Pending : Body
  Joining : Bound → Body
  Relaying : Body
  Dropping : Body

pub record Exchange : Type 0 where
  pub number : ℕ
  pub asker : Option ℕ  -- the client whose current request it was begun for last; nobody, once that request left it
  pub head : Request  -- of that request
  pub key : Key
  pub aim : Aim
  pub named : Option Bytes  -- the tag that its ask names
  pub is_ranged : Bool  -- it asks for a range
  pub is_moved : Bool  -- its first offset is not that of the client's range
  pub text : Bytes
  pub asked : ℕ  -- how much of the text was asked
  pub body_left : ℕ  -- bytes of the request's body that are still to be asked
  pub requested : ℕ  -- when the text was asked whole
  pub place : Option ℕ
  pub body : Body

-- a final response whose head came, and the bytes behind it
pub record Answer : Type 0 where
  pub head : Response
  pub version : Option Version  -- the one that its body is of
  pub rule : BodyRule
  pub raw : Bytes

pub record Conn : Type 0 where
  pub number : ℕ
  pub host : Bytes
  pub port : ℕ
  pub is_reached : Bool
  pub line : List ℕ  -- its exchanges, in the order in which they are answered
  pub unread : Bytes  -- of a head that is not whole
  pub answer : Option Answer
  pub has_brought : Bool  -- a whole final response
  pub may_pipeline : Bool
  pub is_closing : Bool  -- its cause to be closed has come, and it counts as closed
  pub mark : ℕ  -- for its idle time
  pub has_waited : Bool  -- it stood in the wants, or was not reached, at the last wait

-- ---- clients

-- a response that is passed to a client, and what of its body is spelled and not said
pub record Passed : Type 0 where
  pub head : Response
  pub rule : BodyRule
  pub pipe : Pipe
  pub is_short : Bool  -- its connection was gone before it was whole

-- what the exchange of a request brought, by the head of its response: nothing yet; nothing of use; a body that belongs to
-- this instance, and whether no Age was told; a response that is passed; a part that was asked for from too early on
pub data Brought : Type 0 where
  Awaited : Brought
  Useless : Brought
  Joins : ℕ → Bool → Brought
  Passes : Passed → Brought
  TooWide : Brought

-- the exchange of another client that a request waits for, and since when
pub record Shared : Type 0 where
  pub exchange : ℕ
  pub since : ℕ

-- how a request fares: it lost so many attempts; they ended; its ask as a follower is too long; its row was refused memory
pub data Course : Type 0 where
  Trying : ℕ → Course
  OutOfTries : Course
  AskTooLong : Course
  RowRefused : Course

pub record Reply : Type 0 where
  pub decision : Decision
  pub source : Option ℕ  -- the instance that is followed
  pub has_begun : Bool
  pub head_left : Bytes  -- of its head, or of the page that it is
  pub at : ℕ  -- the next offset of its body, and the end
  pub to : ℕ

-- where the current request is. The exchange that it waits for is the one that names its client
pub data Stage : Type 0 where
  Undecided : Stage
  Waiting : Stage  -- decided again when the head of its exchange's response came
  Passing : Stage  -- the response to its exchange is its reply
  Answering : Reply → Stage

pub record Client : Type 0 where
  pub number : ℕ
  pub is_new : Bool  -- opened in this turn
  pub has_hung_up : Bool  -- it sends no more
  pub front : Front  -- its current request
  pub heard : Bytes  -- behind the head of that request, or of a head that is not whole
  pub body_left : ℕ  -- bytes of that request's body that are still to be asked
  pub skip : ℕ  -- bytes of a body that are dropped as they come
  pub index : ℕ  -- the number of the request
  pub stage : Stage
  pub waits_on : Option Shared  -- before an exchange of its own
  pub brought : Brought
  pub course : Course
  pub has_given_up : Bool  -- a row was cleared for its request: nobody filled its hole, or it may not be shared
  pub interim_left : Bytes
  pub closes : Bool  -- its reply is the last
  pub is_closing : Bool  -- its cause to be closed has come, and it counts as closed
  pub is_cut : Bool
  pub mark : ℕ  -- for its idle time

-- ---- the turn

-- the opening has its places: recovery is at IsListed, and IsStuck is behind what failed. A turn has its phases
pub data Phase : Type 0 where
  Before : Phase
  IsWoken IsConfigured IsRooted IsListed IsListening IsStuck : Phase
  Awaiting : Phase  -- the event
  Handling : Phase  -- the event, with at most one read or write
  Evicting : Phase  -- rows and chunks leave memory
  Keeping : Phase  -- the disk
  Deciding : Phase  -- decisions and cuts
  Following : Phase  -- what is not seen is dropped, and followers ask
  Connecting : Phase  -- closings, then the places of exchanges
  DecidingAgain : Phase  -- decisions and cuts that these bring

-- what the event asks for
pub data Owed : Type 0 where
  Free : Owed
  ReadOf WriteTo : ℕ → Owed

-- what was begun on the disk: these follow, in this order
pub data Todo : Type 0 where
  Do : DiskOp → Todo
  Enter : Entry → Todo
  Acknowledge : Bytes → Bytes → ℕ → ℕ → Todo

-- and on which name
pub record Agenda : Type 0 where
  pub name : Bytes
  pub todo : List Todo

abbrev pub no_agenda : Agenda
no_agenda = record { name = []; todo = [] }

pub record State : Type 0 where
  -- all lives
  pub sent : List Sent
  pub acknowledged : List Entry
  pub disk : Log  -- the last Woke, and each Began and Did since
  pub top : ℕ  -- the greatest number of a connection
  pub terms : List Term  -- of the lives to come
  -- this life
  pub term : Term
  pub settings : Settings
  pub phase : Phase
  pub clock : ℕ
  pub has_ticked : Bool
  pub failures : ℕ
  pub clients : List Client
  pub conns : List Conn
  pub exchanges : List Exchange  -- in the order of their beginnings
  pub next_exchange : ℕ
  pub instances : List Instance  -- in the order of making, refreshing and deciding: the least recently used first
  pub next_instance : ℕ
  pub chunks : List Chunk  -- the least recently used first
  pub entries : List Entry
  pub closed_names : List Bytes
  pub under_way : Option DiskOp
  pub displaced : List Bytes  -- keys that have an entry whose name another key took
  pub has_lost_draft : Bool  -- a draft failed, and the clock has not ticked since
  -- this turn
  pub is_ticked : Bool
  pub is_stopped : Bool
  pub owed : Owed
  pub is_evicting : Bool  -- the trigger was reached
  pub forgotten : List Bytes  -- rows that left memory and are not noted yet
  pub has_made_room : Option ℕ  -- the client for whose decision, which is next, a row left memory
  pub agenda : Agenda

abbrev pub no_term : Term
no_term = record { words = []; faults = 0 }

abbrev pub start : List Term → State
start terms = record {
  sent = [];
  acknowledged = [];
  disk = [];
  top = 0;
  terms = terms;
  term = no_term;
  settings = defaults;
  phase = Before;
  clock = 0;
  has_ticked = false;
  failures = 0;
  clients = [];
  conns = [];
  exchanges = [];
  next_exchange = 0;
  instances = [];
  next_instance = 0;
  chunks = [];
  entries = [];
  closed_names = [];
  under_way = None;
  displaced = [];
  has_lost_draft = false;
  is_ticked = false;
  is_stopped = false;
  owed = Free;
  is_evicting = false;
  forgotten = [];
  has_made_room = None;
  agenda = no_agenda;
}
