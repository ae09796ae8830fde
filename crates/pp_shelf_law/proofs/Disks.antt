-- The law's disk is the log's.
use Rattle.std.proofs.Common.{◌≡◌, ⊎_elim, refl, sym, subst, ap, ◌∙◌, ℕ, zero, suc, ◌+◌, Bool, true, false, ◌&&◌, ◌||◌, find, List, [], ◌∷◌, ◌++◌, append_assoc, length, Option, Some, None, is_some}
use Rattle.std.proofs.lemmas.List.{append-nil}
use Rattle.std.specs.Prelude.{bytes_eq, fold}
use Rattle.pp_conf.specs.Conf.{Settings}
use Rattle.pp_conf.specs.Words.{reading_of}
use Rattle.pp_law.specs.After.{after, begun_op, changed, dialled, dropped, ended_op, event, forgotten_by, leave_memory, new_conn, noted, opened, out, owing, paid, refused_dial, take_decision, undialled, unread}
use Rattle.pp_law.specs.Chunks.{note_use}
use Rattle.pp_law.specs.Connections.{client, conn, end_exchange, lose_attempt, may_ask_again, on_client, on_conn, on_exchange, placing, put_on, Placement, Pause, AllPlaced, WaitsDial, WaitsDrop}
use Rattle.pp_law.specs.Deciding.{decided}
use Rattle.pp_law.specs.Lawful.{LawfulFrom}
use Rattle.pp_law.specs.Followers.{fill}
use Rattle.pp_law.specs.Leaving.{Leaving, ForAnother, ForMemory, BeforeDecision, leaving_as}
use Rattle.pp_law.specs.Lists.{Bytes}
use Rattle.pp_law.specs.Opening.{are_texts, begun, configured, is_at, is_opening, lose_in_opening, names_file, opened_to, settings_in, stuck, with_settings, woken}
use Rattle.pp_law.specs.Permits.{IsPermitted, permits, permits_began}
use Rattle.pp_law.specs.Phases.{come_to, come_to_decide, deciding, ending, may_in, next}
use Rattle.pp_law.specs.Replies.{regained}
use Rattle.pp_law.specs.Repairs.{agenda_in_opening, begin_in_opening, may_begin_in_opening}
use Rattle.pp_law.specs.State.{State, Agenda, Client, Conn, Entry, Exchange, Instance, Phase, IsListed, IsListening, IsRooted, IsWoken, Evicting, Keeping, Connecting, Owed, ReadOf, WriteTo, Todo, Do, Enter, Acknowledge, start}
use Rattle.pp_law.specs.Store.{agenda_in_turn, begin_in_turn, begin_op, close_name, end_op, enter_next, fail_op, is_idle_disk, is_of_draft, left_todo, load, load_from, lose_draft, lose_entry, may_begin_in_turn, note_gone, note_kept, remove_entry}
use Rattle.pp_law.specs.Table.{is_entry_of, kept_row, row}
use Rattle.pp_law.specs.Turn.{rest_with, touch}
use Rattle.pp_laws.proofs.Tests.{first_holds, second_holds}
use Rattle.pp_laws.specs.Runs.{after_all, state_after}
use Rattle.pp_laws_crash.proofs.Happenings.{either_is, listed_opens, opens_not, permitted, test_so}
use Rattle.pp_laws_crash.proofs.Standing.{at_IsListed, opening_still}
use Rattle.pp_laws_crash.proofs.Views.{began_failed, done_failed, view_more}
use Rattle.pp_obeys.proofs.Frames.{Frame, Stays, frame, frame_of, stays}
use Rattle.pp_obeys.proofs.Settled.{come_at}
use Rattle.pp_obeys.proofs.StaysAsks.{decided-stays, fill-stays}
use Rattle.pp_obeys.proofs.StaysResponses.{got-stays}
use Rattle.pp_obeys.proofs.StaysTable.{close_client-stays, end_exchange-stays, forget-stays, lose_attempt-stays}
use Rattle.pp_obeys.proofs.StaysTurns.{ask-stays, come_to-frame, come_to_decide-frame, deciding-frame, end_replies-stays, ending-frame, evicted-stays, gone-stays, hang_up-stays, hear-stays, next-frame, out-stays, placing-frame, reached-stays, refused_row-stays, said-stays, shut-stays, tick-frame}
use Rattle.pp_obeys.specs.Obeys.{AreDone, phases_on}
use Rattle.pp_world.specs.Disk.{View, began, done, view_after, view_of}
use Rattle.pp_world.specs.Files.{Files}
use Rattle.pp_world.specs.Log.{Log}
use Rattle.pp_world.specs.declared.event.Wants.{Wants}
use Rattle.pp_world.specs.declared.happening.Happening.{Happening}
use Rattle.pp_world.specs.declared.happening.Happening.TheVariants.{Woke, Waits, Clock, Opened, CanRead, CanWrite, Heard, HungUp, Said, Shut, Dialled, Undialled, Reached, Ended, Broke, Asked, Got, Dropped, NoneYet, Began, Did, Unread, Noted, Rooted, Listed, Listens, Configured, Printed, Stopped}
use Rattle.pp_world.specs.declared.note.Decision.{Decision}
use Rattle.pp_world.specs.declared.note.Remark.{Remark}
use Rattle.pp_world.specs.declared.note.Remark.TheVariants.{Taken, Cut, Kept, Gone, Forgotten, Evicted, Loaded}
use Rattle.pp_world.specs.declared.op.DiskOp.{DiskOp}
use Rattle.pp_shelf_law.specs.Folder.{DisksAreTheLogs, FilesAreTheLogs, disk_with}
use Rattle.pp_shelf_law.proofs.Lists.{true_false}

-- ---- what leaves the disk as it is

same : (s t : State) → Stays false (frame false s) t → t.disk ≡ s.disk
same s t h = ap (λ (o : Frame). o.disk) (frame_of h)

come_disk : (phase : Phase) (s : State) → (come_to phase s).disk ≡ s.disk
come_disk phase s = ap (λ (o : Frame). o.disk) (come_to-frame false phase s)

decide_disk : (s : State) → (come_to_decide s).disk ≡ s.disk
decide_disk s = ap (λ (o : Frame). o.disk) (come_to_decide-frame false s)

paid_disk : (s : State) → (paid s).disk ≡ s.disk
unfolding paid regained
paid_disk s = refl

event_disk : (s : State) → (event s).disk ≡ s.disk
unfolding event regained
event_disk s = refl

waits_disk : (s : State) (w : Wants) → (rest_with w (ending s)).disk ≡ s.disk
unfolding rest_with
waits_disk s w = ap (λ (o : Frame). o.disk) (ending-frame false s)

opened_disk : (s : State) (n : ℕ) → (event (opened n s)).disk ≡ s.disk
unfolding event regained opened
opened_disk s n = refl

owing_disk : (s : State) (owed : Owed) (n : ℕ) → (event (owing owed n s)).disk ≡ s.disk
unfolding event regained owing touch on_conn on_client
owing_disk s owed n = refl

decided_disk : (n : ℕ) (d : Decision) (s : State) → (take_decision n d s).disk ≡ s.disk
unfolding take_decision regained
decided_disk n d s = by (client s n)
  where
    by : (o : Option Client) → (elim o as (λ x. State) [ None ↦ s | Some c ↦ regained (record (decided c d s) { forgotten = []; has_made_room = None }) ]).disk ≡ s.disk
    by None = refl
    by (Some c) = same s (decided c d s) (decided-stays c d s (stays refl))

leave_disk : (how : Leaving) (s : State) → (leave_memory how s).disk ≡ s.disk
unfolding leave_memory
leave_disk ForAnother s = come_disk Evicting s
leave_disk (ForMemory x) s = same (come_to Evicting s) _ (refused_row-stays x (come_to Evicting s) (stays refl)) ∙ come_disk Evicting s
leave_disk (BeforeDecision x) s = same (come_to_decide s) _ (forget-stays x.id (come_to_decide s) (stays refl)) ∙ decide_disk s

forgotten_disk : (key : Bytes) (s : State) → (forgotten_by key s).disk ≡ s.disk
unfolding forgotten_by
forgotten_disk key s = by (leaving_as s key)
  where
    by : (o : Option Leaving) → (elim o as (λ c. State) [ None ↦ s | Some how ↦ leave_memory how s ]).disk ≡ s.disk
    by None = refl
    by (Some how) = leave_disk how s

gone_disk : (key : Bytes) (s : State) → (note_gone key s).disk ≡ s.disk
unfolding note_gone remove_entry
gone_disk key s = by (find (is_entry_of key) s.entries)
  where
    by : (o : Option Entry) → (elim o as (λ c. State) [ None ↦ s | Some e ↦ remove_entry e s ]).disk ≡ s.disk
    by None = refl
    by (Some e) = refl

load_disk : (key : Bytes) (i : ℕ) (s : State) → (load key i s).disk ≡ s.disk
unfolding load load_from note_use
load_disk key i s = by (row s key) (kept_row s key)
  where
    by : (r : Option Instance) (o : Option Entry) → (elim r as (λ c. State) [ None ↦ s | Some x ↦ elim o as (λ c. State) [ None ↦ s | Some e ↦ load_from x e i s ] ]).disk ≡ s.disk
    by None o = refl
    by (Some x) None = refl
    by (Some x) (Some e) = refl

kept_disk : (key : Bytes) (extent : ℕ) (s : State) → (note_kept key extent s).disk ≡ s.disk
unfolding note_kept
kept_disk key extent s = refl

noted_disk : (r : Remark) (s : State) → (noted r s).disk ≡ s.disk
unfolding noted
noted_disk (Taken c i d) s = decided_disk c d (deciding s) ∙ ap (λ (o : Frame). o.disk) (deciding-frame false s)
noted_disk (Cut c cause) s = same (deciding s) _ (close_client-stays c true (deciding s) (stays refl)) ∙ ap (λ (o : Frame). o.disk) (deciding-frame false s)
noted_disk (Kept key tag n extent) s = kept_disk key extent s
noted_disk (Gone key) s = gone_disk key (come_to Keeping s) ∙ come_disk Keeping s
noted_disk (Forgotten key) s = forgotten_disk key s
noted_disk (Evicted key tag n i) s = same (come_to Evicting s) _ (evicted-stays (come_to Evicting s) (stays refl)) ∙ come_disk Evicting s
noted_disk (Loaded key tag n i) s = load_disk key i s

placed_disk : (s : State) → (placing s).state.disk ≡ s.disk
placed_disk s = ap (λ (o : Frame). o.disk) (placing-frame false s)

dialled_disk : (n : ℕ) (host : Bytes) (port : ℕ) (p : Placement) → (dialled n host port p).disk ≡ p.state.disk
unfolding dialled put_on on_conn on_exchange
dialled_disk n host port p = by p.pause
  where
    by : (pause : Pause) → (elim pause as (λ c. State) [
      | AllPlaced ↦ p.state
      | WaitsDrop k e ↦ p.state
      | WaitsDial e ↦ put_on e.number n (record p.state { conns = p.state.conns ++ new_conn n host port p.state.clock ∷ []; top = n })
    ]).disk ≡ p.state.disk
    by AllPlaced = refl
    by (WaitsDrop k e) = refl
    by (WaitsDial e) = refl

refused_disk : (e : Exchange) (s : State) → (refused_dial e s).disk ≡ s.disk
unfolding refused_dial
refused_disk e s = by (may_ask_again s e.number)
  where
    by : (again : Bool) → (elim again as (λ c. State) [ true ↦ s | false ↦ fill (end_exchange e.number s) ]).disk ≡ s.disk
    by true = refl
    by false = same s _ (fill-stays _ (end_exchange-stays e.number s (stays refl)))

undialled_disk : (p : Placement) → (undialled p).disk ≡ p.state.disk
unfolding undialled
undialled_disk p = by p.pause
  where
    by : (pause : Pause) → (elim pause as (λ c. State) [
      | AllPlaced ↦ p.state
      | WaitsDrop k e ↦ p.state
      | WaitsDial e ↦ refused_dial e (lose_attempt e (record p.state { failures = p.state.failures + 1 }))
    ]).disk ≡ p.state.disk
    by AllPlaced = refl
    by (WaitsDrop k e) = refl
    by (WaitsDial e) = refused_disk e _ ∙ same (record p.state { failures = p.state.failures + 1 }) _ (lose_attempt-stays e (record p.state { failures = p.state.failures + 1 }) (stays refl))

dropped_disk : (n : ℕ) (s : State) → (dropped n s).disk ≡ s.disk
unfolding dropped
dropped_disk n s = by (conn s n)
  where
    when : (closing : Bool) → (elim closing as (λ c. State) [ true ↦ out n s | false ↦ out n (placing s).state ]).disk ≡ s.disk
    when true = same s _ (out-stays n s (stays refl))
    when false = same (placing s).state _ (out-stays n (placing s).state (stays refl)) ∙ placed_disk s

    by : (o : Option Conn) → (elim o as (λ c. State) [ None ↦ s | Some k ↦ elim k.is_closing as (λ c. State) [ true ↦ out n s | false ↦ out n (placing s).state ] ]).disk ≡ s.disk
    by None = refl
    by (Some k) = when k.is_closing

lost_disk : (name : Bytes) (s : State) → (lose_in_opening name s).disk ≡ s.disk
unfolding lose_in_opening lose_entry
lost_disk name s = by (is_opening s)
  where
    by : (opens : Bool) → (elim opens as (λ c. State) [ true ↦ lose_entry name s | false ↦ s ]).disk ≡ s.disk
    by true = refl
    by false = refl

closed_disk : (name : Bytes) (s : State) → (close_name name s).disk ≡ s.disk
unfolding close_name
closed_disk name s = refl

opened_to_disk : (p : Phase) (ok : Bool) (s : State) → (opened_to p ok s).disk ≡ s.disk
unfolding opened_to stuck
opened_to_disk p true s = refl
opened_to_disk p false s = refl

set_disk : (o : Option Settings) (s : State) → (with_settings o s).disk ≡ s.disk
unfolding with_settings
set_disk None s = refl
set_disk (Some c) s = refl

configured_disk : (text : Option Bytes) (s : State) → (configured text s).disk ≡ s.disk
unfolding configured stuck
configured_disk None s = refl
configured_disk (Some text) s = set_disk (settings_in (reading_of s.term.words (Some text))) s

-- ---- what changes it

begun_disk : (s : State) → (begun s).disk ≡ s.disk
unfolding begun
begun_disk s = by (are_texts s.term) (names_file s.term)
  where
    by : (texts names : Bool) → (elim texts as (λ c. State) [
      | false ↦ with_settings None s
      | true ↦ elim names as (λ c. State) [ true ↦ record s { phase = IsWoken } | false ↦ with_settings (settings_in (reading_of s.term.words None)) s ]
    ]).disk ≡ s.disk
    by false names = set_disk None s
    by true true = refl
    by true false = set_disk (settings_in (reading_of s.term.words None)) s

woken_disk : (image : Files) (s : State) → (woken image s).disk ≡ Woke image ∷ []
unfolding woken
woken_disk image s = begun_disk _

begin_disk : (op : DiskOp) (o : Option Agenda) (s : State) → is_some o ≡ true → (begin_op op o s).disk ≡ s.disk ++ Began op ∷ []
unfolding begin_op
begin_disk op None s is = absurd (cc is)
begin_disk op (Some a) s is = refl

enter_disk : (s : State) → (enter_next s).disk ≡ s.disk
unfolding enter_next
enter_disk s = by s.agenda.todo
  where
    one : (next : Todo) (todo : List Todo) → (elim next as (λ c. State) [ Do op ↦ s | Acknowledge key tag n extent ↦ s | Enter e ↦ left_todo todo (record s { entries = s.entries ++ e ∷ [] }) ]).disk ≡ s.disk
    one (Do op) todo = refl
    one (Acknowledge key tag n extent) todo = refl
    one (Enter e) todo = refl

    by : (todo : List Todo) → (elim todo as (λ c. State) [
      | [] ↦ s
      | next ∷ rest ↦ elim next as (λ c. State) [ Do op ↦ s | Acknowledge key tag n extent ↦ s | Enter e ↦ left_todo rest (record s { entries = s.entries ++ e ∷ [] }) ]
    ]).disk ≡ s.disk
    by [] = refl
    by (next ∷ rest) = one next rest

fail_disk : (op : DiskOp) (s : State) → (fail_op op s).disk ≡ s.disk
unfolding fail_op close_name lose_draft
fail_disk op s = by (is_of_draft op)
  where
    by : (drafts : Bool) → (elim drafts as (λ c. State) [ true ↦ lose_draft s | false ↦ close_name s.agenda.name s ]).disk ≡ s.disk
    by true = refl
    by false = refl

ended_disk : (op : DiskOp) (ok : Bool) (s : State) → (ended_op op ok s).disk ≡ s.disk ++ Did op ok ∷ []
unfolding ended_op end_op
ended_disk op true s = enter_disk _
ended_disk op false s = lost_disk s.agenda.name _ ∙ fail_disk op _

begins_by : (s : State) (op : DiskOp) (opens : Bool) → is_opening s ≡ opens → permits_began s op ≡ true → (elim opens as (λ c. State) [ true ↦ begin_in_opening op s | false ↦ begin_in_turn op (come_to Keeping s) ]).disk ≡ s.disk ++ Began op ∷ []
unfolding begin_in_opening begin_in_turn
begins_by s op true opens is = ⊎_elim
    (λ (listed : (is_at IsListed s && may_begin_in_opening op s) ≡ true). begin_disk op (agenda_in_opening op s) s (second_holds (is_idle_disk s) _ (second_holds (is_at IsListed s) _ listed)))
    (λ (turns : may_in Keeping (may_begin_in_turn op) s ≡ true). absurd (not_keeping turns))
    (either_is (is_at IsListed s && may_begin_in_opening op s) _ is)
  where
    not_keeping : may_in Keeping (may_begin_in_turn op) s ≡ true → ⊥
    not_keeping turns =
        let there : (come_to Keeping s).phase ≡ Keeping = come_at Keeping (may_begin_in_turn op) s turns in
        let both : false ≡ true = sym (opens_not s (sym (ap (λ (t : State). t.phase) (opening_still Keeping s opens)) ∙ there)) ∙ opens in
        cc both
begins_by s op false opens is = ⊎_elim
    (λ (listed : (is_at IsListed s && may_begin_in_opening op s) ≡ true). absurd (not_listed (first_holds (is_at IsListed s) _ listed)))
    (λ (turns : may_in Keeping (may_begin_in_turn op) s ≡ true). in_turn turns)
    (either_is (is_at IsListed s && may_begin_in_opening op s) _ is)
  where
    not_listed : is_at IsListed s ≡ true → ⊥
    not_listed listed = let both : true ≡ false = sym (listed_opens s (at_IsListed s.phase listed)) ∙ opens in cc both

    in_turn : may_in Keeping (may_begin_in_turn op) s ≡ true → (begin_op op (agenda_in_turn op (come_to Keeping s)) (come_to Keeping s)).disk ≡ s.disk ++ Began op ∷ []
    in_turn turns =
        begin_disk op (agenda_in_turn op (come_to Keeping s)) (come_to Keeping s) (second_holds (is_idle_disk (come_to Keeping s)) _ (test_so (is_at Keeping (come_to Keeping s)) _ turns))
        ∙ ap (λ (d : Log). d ++ Began op ∷ []) (come_disk Keeping s)

began_disk : (s : State) (op : DiskOp) → permits_began s op ≡ true → (begun_op op s).disk ≡ s.disk ++ Began op ∷ []
unfolding begun_op
began_disk s op is = begins_by s op (is_opening s) refl is

-- ---- one happening

plain_so : (s : State) (op : DiskOp) → IsPermitted s (Began op) → permits_began s op ≡ true
unfolding permits
plain_so s op may = permitted s (Began op) refl may

unread_disk : (name : Bytes) (s : State) → (unread name s).disk ≡ s.disk
unfolding unread
unread_disk name s = paid_disk _ ∙ lost_disk name _ ∙ closed_disk name s

after_disk : (s : State) (h : Happening) → IsPermitted s h → (after s h).disk ≡ disk_with s.disk h
unfolding changed
after_disk s (Woke image) may = woken_disk image s
after_disk s (Waits w) may = waits_disk s w
after_disk s (Clock seconds) may = event_disk _ ∙ ap (λ (o : Frame). o.disk) (tick-frame false seconds s)
after_disk s (Opened n) may = opened_disk s n
after_disk s (CanRead n) may = owing_disk s (ReadOf n) n
after_disk s (CanWrite n) may = owing_disk s (WriteTo n) n
after_disk s (Heard c bytes) may = paid_disk _ ∙ same s _ (hear-stays c bytes s (stays refl))
after_disk s (HungUp c) may = paid_disk _ ∙ same s _ (hang_up-stays c s (stays refl))
after_disk s (Said c offered bytes) may = paid_disk _ ∙ same s _ (said-stays c (length bytes) s (stays refl))
after_disk s (Shut c) may = same (come_to Connecting s) _ (shut-stays c (come_to Connecting s) (stays refl)) ∙ come_disk Connecting s
after_disk s (Dialled n host port) may = dialled_disk n host port (placing (come_to Connecting s)) ∙ placed_disk (come_to Connecting s) ∙ come_disk Connecting s
after_disk s (Undialled host port) may = undialled_disk (placing (come_to Connecting s)) ∙ placed_disk (come_to Connecting s) ∙ come_disk Connecting s
after_disk s (Reached k) may = event_disk _ ∙ same s _ (reached-stays k s (stays refl))
after_disk s (Ended k) may = paid_disk _ ∙ same s _ (gone-stays true k s (stays refl))
after_disk s (Broke k) may = paid_disk _ ∙ same (event s) _ (gone-stays false k (event s) (stays refl)) ∙ event_disk s
after_disk s (Asked k bytes) may = paid_disk _ ∙ same s _ (ask-stays k (length bytes) s (stays refl))
after_disk s (Got k bytes) may = paid_disk _ ∙ same s _ (end_replies-stays _ (got-stays (length bytes) k bytes s (stays refl)))
after_disk s (Dropped k) may = dropped_disk k (come_to Connecting s) ∙ come_disk Connecting s
after_disk s (NoneYet n) may = paid_disk s
after_disk s (Began op) may = began_disk s op (plain_so s op may)
after_disk s (Did op ok) may = ended_disk op ok s
after_disk s (Unread name) may = unread_disk name s
after_disk s (Noted remark) may = noted_disk remark s
after_disk s (Rooted folder) may = opened_to_disk IsRooted true s
after_disk s (Listed ok) may = opened_to_disk IsListed ok s
after_disk s (Listens port ok) may = opened_to_disk IsListening ok s
after_disk s (Configured file text) may = configured_disk text s
after_disk s (Printed text) may = refl
after_disk s Stopped may = event_disk _

-- ---- logs

all_disk : (s : State) (log : Log) → LawfulFrom s log → (after_all s log).disk ≡ fold disk_with s.disk log
all_disk s [] lawful = refl
all_disk s (h ∷ log) lawful = all_disk (after s h) log lawful.1 ∙ ap (λ (d : Log). fold disk_with d log) (after_disk s h lawful.0)

on_disk : (n : ℕ) (s t : State) → AreDone n s → phases_on n s ≡ t → t.disk ≡ s.disk
on_disk zero s t done there = ap (λ (u : State). u.disk) (sym there)
on_disk (suc n) s t done there = on_disk n (next s) t done.1 there ∙ ap (λ (o : Frame). o.disk) (next-frame false s)

pub disks : DisksAreTheLogs
disks terms s log obeys = on_disk obeys.goes.phases (state_after terms log) s obeys.goes.done obeys.goes.there ∙ all_disk (start terms) log obeys.lawful

-- ---- what stands under a name

or_parts : (a b : Bool) → (a || b) ≡ false → (a ≡ false) × (b ≡ false)
or_parts true b is = true_false is
or_parts false b is = (refl, is)

-- where nothing failed
abbrev AreAlike : Bytes → Log → Log → Type 0
AreAlike name disk log = (view_of name log).failed ≡ false → view_of name disk ≡ view_of name log

plain_view : (name : Bytes) (log : Log) (h : Happening) (v : View) → view_of name log ≡ v → view_after name v h ≡ v → view_of name (log ++ h ∷ []) ≡ v
plain_view name log h v is stays_so = view_more name log h ∙ ap (λ (u : View). view_after name u h) is ∙ stays_so

-- a happening that is on the disk in both
shared : (name : Bytes) (disk log : Log) (h : Happening) → ((v : View) → (view_after name v h).failed ≡ false → v.failed ≡ false) → AreAlike name disk log → AreAlike name (disk ++ h ∷ []) (log ++ h ∷ [])
shared name disk log h before alike sound =
    view_more name disk h
    ∙ ap (λ (u : View). view_after name u h) (alike (before (view_of name log) (ap (λ (u : View). u.failed) (sym (view_more name log h)) ∙ sound)))
    ∙ sym (view_more name log h)

-- one that is on none
passed_by : (name : Bytes) (disk log : Log) (h : Happening) → ((v : View) → view_after name v h ≡ v) → AreAlike name disk log → AreAlike name disk (log ++ h ∷ [])
passed_by name disk log h none alike sound =
    let is : view_of name (log ++ h ∷ []) ≡ view_of name log = view_more name log h ∙ none (view_of name log) in
    alike (ap (λ (u : View). u.failed) (sym is) ∙ sound) ∙ sym is

began_before : (name : Bytes) (op : DiskOp) (v : View) → (began name op v).failed ≡ false → v.failed ≡ false
began_before name op v sound = sym (began_failed name op v) ∙ sound

did_before : (name : Bytes) (op : DiskOp) (ok : Bool) (v : View) → (view_after name v (Did op ok)).failed ≡ false → v.failed ≡ false
did_before name op true v sound = sym (done_failed name op v) ∙ sound
did_before name op false v sound = (or_parts v.failed _ sound).0

unread_same : (name n : Bytes) (disk log : Log) → AreAlike name disk log → AreAlike name disk (log ++ Unread n ∷ [])
unread_same name n disk log alike sound =
    let v : View = view_of name log in
    let more : view_of name (log ++ Unread n ∷ []) ≡ record { draft = v.draft; slot = v.slot; failed = v.failed || bytes_eq n name } = view_more name log (Unread n) in
    let parts = or_parts v.failed (bytes_eq n name) (ap (λ (u : View). u.failed) (sym more) ∙ sound) in
    let whole : record { draft = v.draft; slot = v.slot; failed = v.failed || bytes_eq n name } ≡ v =
    ap (λ (b : Bool). record { draft = v.draft; slot = v.slot; failed = v.failed || b }) parts.1 ∙ or_false v in
    alike parts.0 ∙ sym (more ∙ whole)
  where
    either : (b : Bool) → (b || false) ≡ b
    either true = refl
    either false = refl

    or_false : (v : View) → record { draft = v.draft; slot = v.slot; failed = v.failed || false } ≡ v
    or_false v = ap (λ (b : Bool). record { draft = v.draft; slot = v.slot; failed = b }) (either v.failed)

woke_same : (name : Bytes) (image : Files) (log : Log) → AreAlike name (Woke image ∷ []) (log ++ Woke image ∷ [])
woke_same name image log sound = view_more name [] (Woke image) ∙ sym (view_more name log (Woke image))

one_same : (name : Bytes) (disk log : Log) (h : Happening) → AreAlike name disk log → AreAlike name (disk_with disk h) (log ++ h ∷ [])
one_same name disk log (Woke image) alike = woke_same name image log
one_same name disk log (Waits w) alike = passed_by name disk log (Waits w) (λ v. refl) alike
one_same name disk log (Clock seconds) alike = passed_by name disk log (Clock seconds) (λ v. refl) alike
one_same name disk log (Opened n) alike = passed_by name disk log (Opened n) (λ v. refl) alike
one_same name disk log (CanRead n) alike = passed_by name disk log (CanRead n) (λ v. refl) alike
one_same name disk log (CanWrite n) alike = passed_by name disk log (CanWrite n) (λ v. refl) alike
one_same name disk log (Heard c bytes) alike = passed_by name disk log (Heard c bytes) (λ v. refl) alike
one_same name disk log (HungUp c) alike = passed_by name disk log (HungUp c) (λ v. refl) alike
one_same name disk log (Said c offered bytes) alike = passed_by name disk log (Said c offered bytes) (λ v. refl) alike
one_same name disk log (Shut c) alike = passed_by name disk log (Shut c) (λ v. refl) alike
one_same name disk log (Dialled n host port) alike = passed_by name disk log (Dialled n host port) (λ v. refl) alike
one_same name disk log (Undialled host port) alike = passed_by name disk log (Undialled host port) (λ v. refl) alike
one_same name disk log (Reached k) alike = passed_by name disk log (Reached k) (λ v. refl) alike
one_same name disk log (Ended k) alike = passed_by name disk log (Ended k) (λ v. refl) alike
one_same name disk log (Broke k) alike = passed_by name disk log (Broke k) (λ v. refl) alike
one_same name disk log (Asked k bytes) alike = passed_by name disk log (Asked k bytes) (λ v. refl) alike
one_same name disk log (Got k bytes) alike = passed_by name disk log (Got k bytes) (λ v. refl) alike
one_same name disk log (Dropped k) alike = passed_by name disk log (Dropped k) (λ v. refl) alike
one_same name disk log (NoneYet n) alike = passed_by name disk log (NoneYet n) (λ v. refl) alike
one_same name disk log (Began op) alike = shared name disk log (Began op) (began_before name op) alike
one_same name disk log (Did op ok) alike = shared name disk log (Did op ok) (did_before name op ok) alike
one_same name disk log (Unread n) alike = unread_same name n disk log alike
one_same name disk log (Noted remark) alike = passed_by name disk log (Noted remark) (λ v. refl) alike
one_same name disk log (Rooted folder) alike = passed_by name disk log (Rooted folder) (λ v. refl) alike
one_same name disk log (Listed ok) alike = passed_by name disk log (Listed ok) (λ v. refl) alike
one_same name disk log (Listens port ok) alike = passed_by name disk log (Listens port ok) (λ v. refl) alike
one_same name disk log (Configured file text) alike = passed_by name disk log (Configured file text) (λ v. refl) alike
one_same name disk log (Printed text) alike = passed_by name disk log (Printed text) (λ v. refl) alike
one_same name disk log Stopped alike = passed_by name disk log Stopped (λ v. refl) alike

all_same : (name : Bytes) (disk log rest : Log) → AreAlike name disk log → AreAlike name (fold disk_with disk rest) (log ++ rest)
all_same name disk log [] alike = subst (AreAlike name disk) (sym (append-nil log)) alike
all_same name disk log (h ∷ rest) alike =
    subst (AreAlike name (fold disk_with (disk_with disk h) rest)) (append_assoc log (h ∷ []) rest) (all_same name (disk_with disk h) (log ++ h ∷ []) rest (one_same name disk log h alike))

pub files : FilesAreTheLogs
files log name sound = all_same name [] [] log (λ is. refl) sound
