-- The law knows of no greater number than the log's.
use Rattle.std.proofs.Common.{◌≡◌, refl, sym, subst, ap, ◌∙◌, ℕ, zero, suc, ◌+◌, ◌≤◌, max, le_trans, arith, Bool, true, false, find, List, [], ◌∷◌, ◌++◌, length, Option, Some, None}
use Rattle.std.specs.Prelude.{fold}
use Rattle.pp_conf.specs.Conf.{Settings}
use Rattle.pp_conf.specs.Words.{reading_of}
use Rattle.pp_law.specs.After.{after, begun_op, changed, dialled, dropped, ended_op, event, forgotten_by, leave_memory, new_conn, noted, opened, out, owing, paid, refused_dial, take_decision, undialled, unread}
use Rattle.pp_law.specs.Chunks.{note_use}
use Rattle.pp_law.specs.Connections.{client, conn, end_exchange, lose_attempt, may_ask_again, on_client, on_conn, on_exchange, placing, put_on, Placement, Pause, AllPlaced, WaitsDial, WaitsDrop}
use Rattle.pp_law.specs.Deciding.{decided}
use Rattle.pp_law.specs.Followers.{fill}
use Rattle.pp_law.specs.Leaving.{Leaving, ForAnother, ForMemory, BeforeDecision, leaving_as}
use Rattle.pp_law.specs.Lists.{Bytes}
use Rattle.pp_law.specs.Opening.{are_texts, begun, configured, is_opening, lose_in_opening, names_file, opened_to, settings_in, stuck, with_settings, woken}
use Rattle.pp_law.specs.Phases.{come_to, come_to_decide, deciding, ending, next}
use Rattle.pp_law.specs.Replies.{regained}
use Rattle.pp_law.specs.Repairs.{agenda_in_opening, begin_in_opening}
use Rattle.pp_law.specs.State.{State, Agenda, Client, Conn, Entry, Exchange, Instance, Phase, IsListed, IsListening, IsRooted, IsWoken, Evicting, Keeping, Connecting, Owed, ReadOf, WriteTo, Todo, Do, Enter, Acknowledge, start}
use Rattle.pp_law.specs.Store.{agenda_in_turn, begin_in_turn, begin_op, close_name, end_op, enter_next, fail_op, is_of_draft, left_todo, load, load_from, lose_draft, lose_entry, note_gone, note_kept, remove_entry}
use Rattle.pp_law.specs.Table.{is_entry_of, kept_row, row}
use Rattle.pp_law.specs.Turn.{rest_with, touch}
use Rattle.pp_laws.specs.Runs.{after_all, state_after}
use Rattle.pp_obeys.proofs.Frames.{Frame, Stays, frame, frame_of, stays}
use Rattle.pp_obeys.proofs.StaysAsks.{decided-stays, fill-stays}
use Rattle.pp_obeys.proofs.StaysResponses.{got-stays}
use Rattle.pp_obeys.proofs.StaysTable.{close_client-stays, end_exchange-stays, forget-stays, lose_attempt-stays}
use Rattle.pp_obeys.proofs.StaysTurns.{ask-stays, come_to-frame, come_to_decide-frame, deciding-frame, end_replies-stays, ending-frame, evicted-stays, gone-stays, hang_up-stays, hear-stays, next-frame, out-stays, placing-frame, reached-stays, refused_row-stays, said-stays, shut-stays, tick-frame}
use Rattle.pp_obeys.specs.Obeys.{AreDone, phases_on}
use Rattle.pp_world.specs.Disk.{done}
use Rattle.pp_world.specs.Files.{Files}
use Rattle.pp_world.specs.Log.{Log}
use Rattle.pp_world.specs.declared.event.Wants.{Wants}
use Rattle.pp_world.specs.declared.happening.Happening.{Happening}
use Rattle.pp_world.specs.declared.happening.Happening.TheVariants.{Woke, Waits, Clock, Opened, CanRead, CanWrite, Heard, HungUp, Said, Shut, Dialled, Undialled, Reached, Ended, Broke, Asked, Got, Dropped, NoneYet, Began, Did, Unread, Noted, Rooted, Listed, Listens, Configured, Printed, Stopped}
use Rattle.pp_world.specs.declared.note.Decision.{Decision}
use Rattle.pp_world.specs.declared.note.Remark.{Remark}
use Rattle.pp_world.specs.declared.note.Remark.TheVariants.{Taken, Cut, Kept, Gone, Forgotten, Evicted, Loaded}
use Rattle.pp_world.specs.declared.op.DiskOp.{DiskOp}
use Rattle.pp_world.specs.Connections.{top_of, top_with}
use Rattle.pp_joints_law.specs.Opened.{TopsAreTheLogs}

-- ---- what gives no number

first_most : (a b : ℕ) → a ≤ max a b
first_most a b = omega arith

second_most : (a b : ℕ) → b ≤ max a b
second_most a b = omega arith

same : (s t : State) → Stays false (frame false s) t → t.top ≡ s.top
same s t h = ap (λ (o : Frame). o.top) (frame_of h)

come_top : (phase : Phase) (s : State) → (come_to phase s).top ≡ s.top
come_top phase s = ap (λ (o : Frame). o.top) (come_to-frame false phase s)

decide_top : (s : State) → (come_to_decide s).top ≡ s.top
decide_top s = ap (λ (o : Frame). o.top) (come_to_decide-frame false s)

paid_top : (s : State) → (paid s).top ≡ s.top
unfolding paid regained
paid_top s = refl

event_top : (s : State) → (event s).top ≡ s.top
unfolding event regained
event_top s = refl

waits_top : (s : State) (w : Wants) → (rest_with w (ending s)).top ≡ s.top
unfolding rest_with
waits_top s w = ap (λ (o : Frame). o.top) (ending-frame false s)

owing_top : (s : State) (owed : Owed) (n : ℕ) → (event (owing owed n s)).top ≡ s.top
unfolding event regained owing touch on_conn on_client
owing_top s owed n = refl

decided_top : (n : ℕ) (d : Decision) (s : State) → (take_decision n d s).top ≡ s.top
unfolding take_decision regained
decided_top n d s = by (client s n)
  where
    by : (o : Option Client) → (elim o as (λ x. State) [ None ↦ s | Some c ↦ regained (record (decided c d s) { forgotten = []; made_room_for = None }) ]).top ≡ s.top
    by None = refl
    by (Some c) = same s (decided c d s) (decided-stays c d s (stays refl))

leave_top : (how : Leaving) (s : State) → (leave_memory how s).top ≡ s.top
unfolding leave_memory
leave_top ForAnother s = come_top Evicting s
leave_top (ForMemory x) s = same (come_to Evicting s) _ (refused_row-stays x (come_to Evicting s) (stays refl)) ∙ come_top Evicting s
leave_top (BeforeDecision x) s = same (come_to_decide s) _ (forget-stays x.id (come_to_decide s) (stays refl)) ∙ decide_top s

forgotten_top : (key : Bytes) (s : State) → (forgotten_by key s).top ≡ s.top
unfolding forgotten_by
forgotten_top key s = by (leaving_as s key)
  where
    by : (o : Option Leaving) → (elim o as (λ c. State) [ None ↦ s | Some how ↦ leave_memory how s ]).top ≡ s.top
    by None = refl
    by (Some how) = leave_top how s

gone_top : (key : Bytes) (s : State) → (note_gone key s).top ≡ s.top
unfolding note_gone remove_entry
gone_top key s = by (find (is_entry_of key) s.entries)
  where
    by : (o : Option Entry) → (elim o as (λ c. State) [ None ↦ s | Some e ↦ remove_entry e s ]).top ≡ s.top
    by None = refl
    by (Some e) = refl

load_top : (key : Bytes) (i : ℕ) (s : State) → (load key i s).top ≡ s.top
unfolding load load_from note_use
load_top key i s = by (row s key) (kept_row s key)
  where
    by : (r : Option Instance) (o : Option Entry) → (elim r as (λ c. State) [ None ↦ s | Some x ↦ elim o as (λ c. State) [ None ↦ s | Some e ↦ load_from x e i s ] ]).top ≡ s.top
    by None o = refl
    by (Some x) None = refl
    by (Some x) (Some e) = refl

kept_top : (key : Bytes) (extent : ℕ) (s : State) → (note_kept key extent s).top ≡ s.top
unfolding note_kept
kept_top key extent s = refl

noted_top : (r : Remark) (s : State) → (noted r s).top ≡ s.top
unfolding noted
noted_top (Taken c i d) s = decided_top c d (deciding s) ∙ ap (λ (o : Frame). o.top) (deciding-frame false s)
noted_top (Cut c cause) s = same (deciding s) _ (close_client-stays c true (deciding s) (stays refl)) ∙ ap (λ (o : Frame). o.top) (deciding-frame false s)
noted_top (Kept key tag n extent) s = kept_top key extent s
noted_top (Gone key) s = gone_top key (come_to Keeping s) ∙ come_top Keeping s
noted_top (Forgotten key) s = forgotten_top key s
noted_top (Evicted key tag n i) s = same (come_to Evicting s) _ (evicted-stays (come_to Evicting s) (stays refl)) ∙ come_top Evicting s
noted_top (Loaded key tag n i) s = load_top key i s

placed_top : (s : State) → (placing s).state.top ≡ s.top
placed_top s = ap (λ (o : Frame). o.top) (placing-frame false s)

dialled_top : (n : ℕ) (host : Bytes) (port : ℕ) (p : Placement) → (dialled n host port p).top ≤ max p.state.top n
unfolding dialled put_on on_conn on_exchange
dialled_top n host port p = by p.pause
  where
    by : (pause : Pause) → (elim pause as (λ c. State) [
      | AllPlaced ↦ p.state
      | WaitsDrop k e ↦ p.state
      | WaitsDial e ↦ put_on e.number n (record p.state { conns = p.state.conns ++ new_conn n host port p.state.clock ∷ []; top = n })
    ]).top ≤ max p.state.top n
    by AllPlaced = first_most p.state.top n
    by (WaitsDrop k e) = first_most p.state.top n
    by (WaitsDial e) = second_most p.state.top n

refused_top : (e : Exchange) (s : State) → (refused_dial e s).top ≡ s.top
unfolding refused_dial
refused_top e s = by (may_ask_again s e.number)
  where
    by : (again : Bool) → (elim again as (λ c. State) [ true ↦ s | false ↦ fill (end_exchange e.number s) ]).top ≡ s.top
    by true = refl
    by false = same s _ (fill-stays _ (end_exchange-stays e.number s (stays refl)))

undialled_top : (p : Placement) → (undialled p).top ≡ p.state.top
unfolding undialled
undialled_top p = by p.pause
  where
    by : (pause : Pause) → (elim pause as (λ c. State) [
      | AllPlaced ↦ p.state
      | WaitsDrop k e ↦ p.state
      | WaitsDial e ↦ refused_dial e (lose_attempt e (record p.state { failures = p.state.failures + 1 }))
    ]).top ≡ p.state.top
    by AllPlaced = refl
    by (WaitsDrop k e) = refl
    by (WaitsDial e) = refused_top e _ ∙ same (record p.state { failures = p.state.failures + 1 }) _ (lose_attempt-stays e (record p.state { failures = p.state.failures + 1 }) (stays refl))

dropped_top : (n : ℕ) (s : State) → (dropped n s).top ≡ s.top
unfolding dropped
dropped_top n s = by (conn s n)
  where
    when : (closing : Bool) → (elim closing as (λ c. State) [ true ↦ out n s | false ↦ out n (placing s).state ]).top ≡ s.top
    when true = same s _ (out-stays n s (stays refl))
    when false = same (placing s).state _ (out-stays n (placing s).state (stays refl)) ∙ placed_top s

    by : (o : Option Conn) → (elim o as (λ c. State) [ None ↦ s | Some k ↦ elim k.is_closing as (λ c. State) [ true ↦ out n s | false ↦ out n (placing s).state ] ]).top ≡ s.top
    by None = refl
    by (Some k) = when k.is_closing

lost_top : (name : Bytes) (s : State) → (lose_in_opening name s).top ≡ s.top
unfolding lose_in_opening lose_entry
lost_top name s = by (is_opening s)
  where
    by : (opens : Bool) → (elim opens as (λ c. State) [ true ↦ lose_entry name s | false ↦ s ]).top ≡ s.top
    by true = refl
    by false = refl

closed_top : (name : Bytes) (s : State) → (close_name name s).top ≡ s.top
unfolding close_name
closed_top name s = refl

opened_to_top : (p : Phase) (ok : Bool) (s : State) → (opened_to p ok s).top ≡ s.top
unfolding opened_to stuck
opened_to_top p true s = refl
opened_to_top p false s = refl

set_top : (o : Option Settings) (s : State) → (with_settings o s).top ≡ s.top
unfolding with_settings
set_top None s = refl
set_top (Some c) s = refl

configured_top : (text : Option Bytes) (s : State) → (configured text s).top ≡ s.top
unfolding configured stuck
configured_top None s = refl
configured_top (Some text) s = set_top (settings_in (reading_of s.term.words (Some text))) s

-- ---- what gives one, at most

begun_top : (s : State) → (begun s).top ≡ s.top
unfolding begun
begun_top s = by (are_texts s.term) (names_file s.term)
  where
    by : (texts names : Bool) → (elim texts as (λ c. State) [
      | false ↦ with_settings None s
      | true ↦ elim names as (λ c. State) [ true ↦ record s { phase = IsWoken } | false ↦ with_settings (settings_in (reading_of s.term.words None)) s ]
    ]).top ≡ s.top
    by false names = set_top None s
    by true true = refl
    by true false = set_top (settings_in (reading_of s.term.words None)) s

woken_top : (image : Files) (s : State) → (woken image s).top ≡ s.top
unfolding woken
woken_top image s = begun_top _

begin_top : (op : DiskOp) (o : Option Agenda) (s : State) → (begin_op op o s).top ≡ s.top
unfolding begin_op
begin_top op None s = refl
begin_top op (Some a) s = refl

enter_top : (s : State) → (enter_next s).top ≡ s.top
unfolding enter_next
enter_top s = by s.agenda.todo
  where
    one : (next : Todo) (todo : List Todo) → (elim next as (λ c. State) [ Do op ↦ s | Acknowledge key tag n extent ↦ s | Enter e ↦ left_todo todo (record s { entries = s.entries ++ e ∷ [] }) ]).top ≡ s.top
    one (Do op) todo = refl
    one (Acknowledge key tag n extent) todo = refl
    one (Enter e) todo = refl

    by : (todo : List Todo) → (elim todo as (λ c. State) [
      | [] ↦ s
      | next ∷ rest ↦ elim next as (λ c. State) [ Do op ↦ s | Acknowledge key tag n extent ↦ s | Enter e ↦ left_todo rest (record s { entries = s.entries ++ e ∷ [] }) ]
    ]).top ≡ s.top
    by [] = refl
    by (next ∷ rest) = one next rest

fail_top : (op : DiskOp) (s : State) → (fail_op op s).top ≡ s.top
unfolding fail_op close_name lose_draft
fail_top op s = by (is_of_draft op)
  where
    by : (drafts : Bool) → (elim drafts as (λ c. State) [ true ↦ lose_draft s | false ↦ close_name s.agenda.name s ]).top ≡ s.top
    by true = refl
    by false = refl

ended_top : (op : DiskOp) (ok : Bool) (s : State) → (ended_op op ok s).top ≡ s.top
unfolding ended_op end_op
ended_top op true s = enter_top _
ended_top op false s = lost_top s.agenda.name _ ∙ fail_top op _

began_top : (s : State) (op : DiskOp) → (begun_op op s).top ≡ s.top
unfolding begun_op begin_in_opening begin_in_turn
began_top s op = by (is_opening s)
  where
    by : (opens : Bool) → (elim opens as (λ c. State) [ true ↦ begin_in_opening op s | false ↦ begin_in_turn op (come_to Keeping s) ]).top ≡ s.top
    by true = begin_top op (agenda_in_opening op s) s
    by false = begin_top op (agenda_in_turn op (come_to Keeping s)) (come_to Keeping s) ∙ come_top Keeping s

-- ---- one happening

unread_top : (name : Bytes) (s : State) → (unread name s).top ≡ s.top
unfolding unread
unread_top name s = paid_top _ ∙ lost_top name _ ∙ closed_top name s

no_more : {a b : ℕ} → a ≡ b → a ≤ b
no_more {a} {b} is = omega (arith, is)

opened_top : (s : State) (n : ℕ) → (event (opened n s)).top ≤ max s.top n
unfolding event regained opened
opened_top s n = second_most s.top n

after_top : (s : State) (h : Happening) → (after s h).top ≤ top_with s.top h
unfolding changed
after_top s (Woke image) = no_more (woken_top image s)
after_top s (Waits w) = no_more (waits_top s w)
after_top s (Clock seconds) = no_more (event_top _ ∙ ap (λ (o : Frame). o.top) (tick-frame false seconds s))
after_top s (Opened n) = opened_top s n
after_top s (CanRead n) = no_more (owing_top s (ReadOf n) n)
after_top s (CanWrite n) = no_more (owing_top s (WriteTo n) n)
after_top s (Heard c bytes) = no_more (paid_top _ ∙ same s _ (hear-stays c bytes s (stays refl)))
after_top s (HungUp c) = no_more (paid_top _ ∙ same s _ (hang_up-stays c s (stays refl)))
after_top s (Said c offered bytes) = no_more (paid_top _ ∙ same s _ (said-stays c (length bytes) s (stays refl)))
after_top s (Shut c) = no_more (same (come_to Connecting s) _ (shut-stays c (come_to Connecting s) (stays refl)) ∙ come_top Connecting s)
after_top s (Dialled n host port) = subst (λ (k : ℕ). (dialled n host port (placing (come_to Connecting s))).top ≤ max k n) (placed_top (come_to Connecting s) ∙ come_top Connecting s) (dialled_top n host port (placing (come_to Connecting s)))
after_top s (Undialled host port) = no_more (undialled_top (placing (come_to Connecting s)) ∙ placed_top (come_to Connecting s) ∙ come_top Connecting s)
after_top s (Reached k) = no_more (event_top _ ∙ same s _ (reached-stays k s (stays refl)))
after_top s (Ended k) = no_more (paid_top _ ∙ same s _ (gone-stays true k s (stays refl)))
after_top s (Broke k) = no_more (paid_top _ ∙ same (event s) _ (gone-stays false k (event s) (stays refl)) ∙ event_top s)
after_top s (Asked k bytes) = no_more (paid_top _ ∙ same s _ (ask-stays k (length bytes) s (stays refl)))
after_top s (Got k bytes) = no_more (paid_top _ ∙ same s _ (end_replies-stays _ (got-stays (length bytes) k bytes s (stays refl))))
after_top s (Dropped k) = no_more (dropped_top k (come_to Connecting s) ∙ come_top Connecting s)
after_top s (NoneYet n) = no_more (paid_top s)
after_top s (Began op) = no_more (began_top s op)
after_top s (Did op ok) = no_more (ended_top op ok s)
after_top s (Unread name) = no_more (unread_top name s)
after_top s (Noted remark) = no_more (noted_top remark s)
after_top s (Rooted folder) = no_more (opened_to_top IsRooted true s)
after_top s (Listed ok) = no_more (opened_to_top IsListed ok s)
after_top s (Listens port ok) = no_more (opened_to_top IsListening ok s)
after_top s (Configured file text) = no_more (configured_top text s)
after_top s (Printed text) = no_more (refl)
after_top s Stopped = no_more (event_top _)

-- ---- logs

top_more : (a b : ℕ) (h : Happening) → a ≤ b → top_with a h ≤ top_with b h
top_more a b (Woke image) le = le
top_more a b (Waits w) le = le
top_more a b (Clock seconds) le = le
top_more a b (Opened n) le = omega (arith, le)
top_more a b (CanRead n) le = le
top_more a b (CanWrite n) le = le
top_more a b (Heard c bytes) le = le
top_more a b (HungUp c) le = le
top_more a b (Said c offered bytes) le = le
top_more a b (Shut c) le = le
top_more a b (Dialled n host port) le = omega (arith, le)
top_more a b (Undialled host port) le = le
top_more a b (Reached k) le = le
top_more a b (Ended k) le = le
top_more a b (Broke k) le = le
top_more a b (Asked k bytes) le = le
top_more a b (Got k bytes) le = le
top_more a b (Dropped k) le = le
top_more a b (NoneYet n) le = le
top_more a b (Began op) le = le
top_more a b (Did op ok) le = le
top_more a b (Unread name) le = le
top_more a b (Noted remark) le = le
top_more a b (Rooted folder) le = le
top_more a b (Listed ok) le = le
top_more a b (Listens port ok) le = le
top_more a b (Configured file text) le = le
top_more a b (Printed text) le = le
top_more a b Stopped le = le

all_more : (a b : ℕ) (log : Log) → a ≤ b → fold top_with a log ≤ fold top_with b log
all_more a b [] le = le
all_more a b (h ∷ log) le = all_more (top_with a h) (top_with b h) log (top_more a b h le)

all_top : (s : State) (log : Log) → (after_all s log).top ≤ fold top_with s.top log
all_top s [] = omega arith
all_top s (h ∷ log) = le_trans (all_top (after s h) log) (all_more (after s h).top (top_with s.top h) log (after_top s h))

in_phases : (n : ℕ) (s t : State) → AreDone n s → phases_on n s ≡ t → t.top ≡ s.top
in_phases zero s t done there = ap (λ (u : State). u.top) (sym there)
in_phases (suc n) s t done there = in_phases n (next s) t done.1 there ∙ ap (λ (o : Frame). o.top) (next-frame false s)

pub tops_are : TopsAreTheLogs
unfolding top_of
tops_are terms s log obeys = subst (λ (n : ℕ). n ≤ top_of log) (sym (in_phases obeys.goes.phases (state_after terms log) s obeys.goes.done obeys.goes.there)) (all_top (start terms) log)
