-- The state after one happening.
use Rattle.std.specs.Prelude.{ℕ, ◌+◌, Bool, true, false, ◌==◌, ◌&&◌, not, [], ◌∷◌, ◌++◌, length, drop, Some, None}
use Rattle.pp_world.specs.declared.happening.Happening.{Happening}
use Rattle.pp_world.specs.declared.happening.Happening.TheVariants.{Woke, Waits, Clock, Opened, CanRead, CanWrite, Heard, HungUp, Said, Shut, Dialled, Undialled, Reached, Ended, Broke, Asked, Got, Dropped, NoneYet, Began, Did, Unread, Noted, Rooted, Listed, Listens, Configured, Printed, Stopped}
use Rattle.pp_world.specs.declared.note.Decision.{Decision}
use Rattle.pp_world.specs.declared.note.Remark.{Remark}
use Rattle.pp_world.specs.declared.note.Remark.TheVariants.{Taken, Cut, Kept, Gone, Forgotten, Evicted, Loaded}
use Rattle.pp_world.specs.declared.op.DiskOp.{DiskOp}
use Rattle.pp_law.specs.Asking.{hear, ask, hang_up}
use Rattle.pp_law.specs.Chunks.{drop_chunk}
use Rattle.pp_law.specs.Closing.{close_client}
use Rattle.pp_law.specs.Deciding.{decided}
use Rattle.pp_law.specs.Due.{decides_for, first_due, still_waits}
use Rattle.pp_law.specs.Followers.{fill}
use Rattle.pp_law.specs.Connections.{client, conn, on_client, on_conn, is_client, is_conn, put_on, lose_attempt, may_ask_again, end_exchange, placing, Placement, AllPlaced, WaitsDial, WaitsDrop}
use Rattle.pp_law.specs.Leaving.{Leaving, ForAnother, ForMemory, BeforeDecision, leaving_as}
use Rattle.pp_law.specs.Lists.{Bytes, change, is_some_with, without}
use Rattle.pp_law.specs.Opening.{woken, configured, opened_to, is_opening, lose_in_opening}
use Rattle.pp_law.specs.Phases.{in_phase, due_victim, come_to, come_to_decide, deciding, ending}
use Rattle.pp_law.specs.Replies.{said_by, use_said, end_replies, regained}
use Rattle.pp_law.specs.Repairs.{begin_in_opening}
use Rattle.pp_law.specs.Requests.{NoHeadYet}
use Rattle.pp_law.specs.Responses.{got, ended}
use Rattle.pp_law.specs.Stages.{bound_of}
use Rattle.pp_law.specs.State.{State, Client, Conn, Exchange, Instance, Dropping, Brought, Awaited, Joins, Trying, RowRefused, Undecided, IsRooted, IsListed, IsListening, Handling, Evicting, Keeping, Connecting, Owed, Free, ReadOf, WriteTo}
use Rattle.pp_law.specs.Store.{begin_in_turn, end_op, close_name, note_kept, note_gone, load}
use Rattle.pp_law.specs.Table.{forget}
use Rattle.pp_law.specs.Turn.{touch, tick, rest_with}

abbrev pub new_client : ℕ → ℕ → Client
new_client n now = record {
  number = n;
  is_new = true;
  has_hung_up = false;
  front = NoHeadYet;
  heard = [];
  body_left = 0;
  skip = 0;
  index = 0;
  stage = Undecided;
  waits_on = None;
  brought = Awaited;
  course = Trying 0;
  has_given_up = false;
  interim_left = [];
  closes = false;
  is_closing = false;
  is_cut = false;
  mark = now;
}

abbrev pub new_conn : ℕ → Bytes → ℕ → ℕ → Conn
new_conn n host port now = record {
  number = n;
  host = host;
  port = port;
  is_reached = false;
  line = [];
  unread = [];
  answer = None;
  has_brought = false;
  may_pipeline = false;
  is_closing = false;
  mark = now;
  has_waited = false;
}

-- ---- events

unfoldable pub event : State → State
event s = regained (in_phase Handling s)

unfoldable pub opened : ℕ → State → State
opened n s = record s { clients = s.clients ++ new_client n s.clock ∷ []; top = n }

unfoldable pub owing : Owed → ℕ → State → State
owing owed n s = record (touch n s) { owed = owed }

unfoldable pub reached : ℕ → State → State
reached n s = touch n (on_conn n (λ k. record k { is_reached = true }) s)

-- ---- reads and writes

unfoldable pub paid : State → State
paid s = regained (record s { owed = Free })

unfoldable pub said : ℕ → ℕ → State → State
said c n s = elim (client s c) [ None ↦ s | Some x ↦ end_replies (on_client c (said_by n) (use_said n x s)) ]

unfoldable pub gone : Bool → ℕ → State → State
gone is_clean n s = elim (conn s n) [ None ↦ s | Some k ↦ end_replies (ended is_clean k s) ]

-- ---- notes

unfoldable pub take_decision : ℕ → Decision → State → State
take_decision n d s = elim (client s n) [ None ↦ s | Some c ↦ regained (record (decided c d s) { forgotten = []; has_made_room = None }) ]

-- the chunk that has to go next goes
unfoldable pub evicted : State → State
evicted s = elim (due_victim s) [ None ↦ s | Some place ↦ drop_chunk place.0 place.1 s ]

abbrev pub joins : ℕ → Brought → Bool
joins id (Joins x plain) = x == id
joins id brought = false

-- it waits for that row: the response to the exchange of its request made it, or brought it in
abbrev pub waits_for_row : ℕ → Client → Bool
waits_for_row id c = not c.is_closing && joins id c.brought && still_waits c

abbrev pub brings_to : ℕ → Exchange → Bool
brings_to id e = is_some_with (λ b. b.instance == id) (bound_of e)

abbrev pub dropping_body : Exchange → Exchange
dropping_body e = record e { body = Dropping }

-- a row for which memory was refused: what comes for it is dropped
unfoldable pub refused_row : Instance → State → State
refused_row x s =
    let t : State = forget x.id s in
    record t {
      clients = change (waits_for_row x.id) (λ c. record c { course = RowRefused }) t.clients;
      exchanges = change (brings_to x.id) dropping_body t.exchanges;
    }

unfoldable pub leave_memory : Leaving → State → State
leave_memory ForAnother s = let t : State = come_to Evicting s in record t { forgotten = drop 1 t.forgotten }
leave_memory (ForMemory x) s = refused_row x (come_to Evicting s)
leave_memory (BeforeDecision x) s = let t : State = come_to_decide s in record (forget x.id t) { has_made_room = decides_for (first_due t) }

unfoldable pub forgotten_by : Bytes → State → State
forgotten_by key s = elim (leaving_as s key) [ None ↦ s | Some how ↦ leave_memory how s ]

unfoldable pub noted : Remark → State → State
noted (Taken c i d) s = take_decision c d (deciding s)
noted (Cut c cause) s = close_client c true (deciding s)
noted (Kept key tag n extent) s = note_kept key extent s
noted (Gone key) s = note_gone key (come_to Keeping s)
noted (Forgotten key) s = forgotten_by key s
noted (Evicted key tag n i) s = evicted (come_to Evicting s)
noted (Loaded key tag n i) s = load key i s

-- ---- the disk

unfoldable pub begun_op : DiskOp → State → State
begun_op op s = elim (is_opening s) [ true ↦ begin_in_opening op s | false ↦ begin_in_turn op (come_to Keeping s) ]

unfoldable pub ended_op : DiskOp → Bool → State → State
ended_op op true s = end_op op true s
ended_op op false s = lose_in_opening s.agenda.name (end_op op false s)

-- ours: its name is closed; a load that failed stands for the write
unfoldable pub unread : Bytes → State → State
unread name s = paid (lose_in_opening name (close_name name s))

-- ---- closings and places

unfoldable pub shut : ℕ → State → State
shut n s =
    let t : State = close_client n false s in
    record t { clients = without (is_client n) t.clients }

unfoldable pub dialled : ℕ → Bytes → ℕ → Placement → State
dialled n host port p = elim p.pause [
  | AllPlaced ↦ p.state
  | WaitsDrop k e ↦ p.state
  | WaitsDial e ↦ put_on e.number n (record p.state { conns = p.state.conns ++ new_conn n host port p.state.clock ∷ []; top = n })
]

-- it is asked elsewhere; or it is over, and whoever waited for what it brings asks for himself
unfoldable pub refused_dial : Exchange → State → State
refused_dial e s = elim (may_ask_again s e.number) [ true ↦ s | false ↦ fill (end_exchange e.number s) ]

unfoldable pub undialled : Placement → State
undialled p = elim p.pause [
  | AllPlaced ↦ p.state
  | WaitsDrop k e ↦ p.state
  | WaitsDial e ↦ refused_dial e (lose_attempt e (record p.state { failures = p.state.failures + 1 }))
]

unfoldable pub out : ℕ → State → State
out n s = record s { conns = without (is_conn n) s.conns }

-- one that is not closing gives way to a new one, behind the exchanges that have their places
unfoldable pub dropped : ℕ → State → State
dropped n s = elim (conn s n) [ None ↦ s | Some k ↦ elim k.is_closing [ true ↦ out n s | false ↦ out n (placing s).state ] ]

-- ---- all

unfoldable pub changed : State → Happening → State
changed s (Woke image) = woken image s
changed s (Waits w) = rest_with w (ending s)
changed s (Clock seconds) = event (tick seconds s)
changed s (Opened n) = event (opened n s)
changed s (CanRead n) = event (owing (ReadOf n) n s)
changed s (CanWrite n) = event (owing (WriteTo n) n s)
changed s (Heard c bytes) = paid (hear c bytes s)
changed s (HungUp c) = paid (hang_up c s)
changed s (Said c offered bytes) = paid (said c (length bytes) s)
changed s (Shut c) = shut c (come_to Connecting s)
changed s (Dialled n host port) = dialled n host port (placing (come_to Connecting s))
changed s (Undialled host port) = undialled (placing (come_to Connecting s))
changed s (Reached k) = event (reached k s)
changed s (Ended k) = paid (gone true k s)
changed s (Broke k) = paid (gone false k (event s))
changed s (Asked k bytes) = paid (ask k (length bytes) s)
changed s (Got k bytes) = paid (end_replies (got (length bytes) k bytes s))
changed s (Dropped k) = dropped k (come_to Connecting s)
changed s (NoneYet n) = paid s
changed s (Began op) = begun_op op s
changed s (Did op ok) = ended_op op ok s
changed s (Unread name) = unread name s
changed s (Noted remark) = noted remark s
changed s (Rooted folder) = opened_to IsRooted true s
changed s (Listed ok) = opened_to IsListed ok s
changed s (Listens port ok) = opened_to IsListening ok s
changed s (Configured file text) = configured text s
changed s (Printed text) = s
changed s Stopped = event (record s { is_stopped = true })

abbrev pub after : State → Happening → State
after s h = changed s h
