-- The law: where a turn may end, what followers ask for is there or comes.
use Rattle.std.proofs.Common.{◌≡◌, refl, ℕ, Bool, true, false, not, ◌&&◌, ◌||◌, List, [], ◌∷◌, length, is_some, Option, Some, None, inl, inr, sym, subst, ap, ◌∙◌}
use Rattle.std.proofs.lemmas.List.{append-nil}
use Rattle.std.specs.List.{list_any}
use Rattle.pp_text.specs.Bytes.{is_empty}
use Rattle.pp_world.specs.Log.{Log}
use Rattle.pp_world.specs.declared.happening.Happening.{Happening}
use Rattle.pp_world.specs.declared.happening.Happening.TheVariants.{Woke, Waits, Clock, Opened, CanRead, CanWrite, Heard, HungUp, Said, Shut, Dialled, Undialled, Reached, Ended, Broke, Asked, Got, Dropped, NoneYet, Began, Did, Unread, Noted, Rooted, Listed, Listens, Configured, Printed, Stopped}
use Rattle.pp_world.specs.declared.note.Remark.{Remark}
use Rattle.pp_world.specs.declared.note.Remark.TheVariants.{Taken, Cut, Kept, Gone, Forgotten, Evicted, Loaded}
use Rattle.pp_world.specs.declared.op.DiskOp.{DiskOp}
use Rattle.pp_law.specs.After.{begun_op, changed, dialled, dropped, ended_op, event, forgotten_by, leave_memory, noted, refused_row, shut, undialled, unread}
use Rattle.pp_law.specs.Asking.{is_reading, is_writing}
use Rattle.pp_law.specs.Closing.{close_client}
use Rattle.pp_law.specs.Connections.{is_client, placing}
use Rattle.pp_law.specs.Due.{decides_for, first_due}
use Rattle.pp_law.specs.Lawful.{Lawful}
use Rattle.pp_law.specs.Leaving.{Leaving, ForAnother, ForMemory, BeforeDecision, before_decision, is_first, leaving_as, makes_room}
use Rattle.pp_law.specs.Lists.{Bytes, is_some_with}
use Rattle.pp_law.specs.Offers.{is_at_body}
use Rattle.pp_law.specs.Opening.{is_at, is_opening, is_same_phase, lose_in_opening, may_fail}
use Rattle.pp_law.specs.Permits.{IsPermitted, loads_from, is_new_number, may_cut, may_dial, may_drop, may_evict, may_fail_to_load, may_fail_to_recover, may_load, may_load_at, may_shut, may_take, permits, permits_began, permits_unread}
use Rattle.pp_law.specs.Phases.{come_to, come_to_decide, decides, deciding, is_done, may_in, next}
use Rattle.pp_law.specs.Repairs.{begin_in_opening}
use Rattle.pp_law.specs.State.{State, Agenda, Before, Client, Deciding, Instance, IsListed, IsListening, IsRooted, Evicting, Keeping, Connecting, DecidingAgain, Term, start}
use Rattle.pp_law.specs.Store.{begin_in_turn, close_name, is_acknowledged_as, is_at_rest, is_closed, is_idle_disk, may_end_op, may_note_gone, note_gone, note_kept}
use Rattle.pp_law.specs.Table.{forget, next_of, row}
use Rattle.pp_laws.specs.Runs.{IsIn, state_after}
use Rattle.pp_laws.proofs.Tests.{first_holds, same_number, second_holds}
use Rattle.pp_laws_coming.proofs.Permitted.{asked_owed, ended_owed, got_owed, heard_owed, hung_owed, said_owed}
use Rattle.pp_laws_pool.proofs.Along.{Steps, along}
use Rattle.pp_laws_served.specs.Filling.{IsLate, IsReady}
use Rattle.pp_laws_served.proofs.Ready.{ends_ready, places_keep}
use Rattle.pp_laws_served.proofs.Refused.{refusals_keep}
use Rattle.pp_laws_served.proofs.Shuts.{shuts_keep}
use Rattle.pp_laws_turn.proofs.Happenings.{gate}
use Rattle.pp_laws_turn.proofs.Lifts.{obeying}
use Rattle.pp_laws_turn.proofs.View.{facts_of}
use Rattle.pp_laws_unused.proofs.Seen.{Seen, closed_seen, ended_seen, gone_seen, kept_seen, lost_seen, opening_begun_seen, seen, turn_begun_seen}
use Rattle.pp_laws_unused.proofs.Turning.{deciding_phase, dialled_phase, dropped_phase, paid_phase, phase_kept, taken_phase, undialled_phase}
use Rattle.pp_laws_waits.proofs.Served.{any_in}
use Rattle.pp_law.proofs.Prefixes.{front_from}
use Rattle.pp_obeys.specs.Obeys.{Obeys}
use Rattle.pp_obeys.proofs.Come.{next-phase}
use Rattle.pp_obeys.proofs.Frames.{Frame, frame, frame_of, stays}
use Rattle.pp_obeys.proofs.Obeying.{obeys_at_first, obeys_silently}
use Rattle.pp_obeys.proofs.Settled.{at_phase, come_at}
use Rattle.pp_obeys.proofs.Silent.{permitted_wide}
use Rattle.pp_obeys.proofs.StaysResponses.{got-stays}
use Rattle.pp_obeys.proofs.StaysTable.{close_client-stays}
use Rattle.pp_obeys.proofs.StaysTurns.{ask-stays, end_replies-stays, evicted-stays, gone-stays, hang_up-stays, hear-stays, next-frame, refused_row-stays, said-stays, shut-stays}
use Rattle.pp_laws_left.specs.Filled.{EndsAreFilled, LateAreReady}
use Rattle.pp_laws_left.proofs.Filled.{followed_are_within}
use Rattle.pp_laws_left.proofs.OwnedEnds.{event_handles, handles, owned_on}
use Rattle.pp_laws_left.proofs.Readies.{Comes, Idle, Rests, at_rests, come_to_comes, come_to_decide_comes, connected, dialled_frame, dropped_frame, idle_framed, is_behind, next_comes, next_ready, undialled_frame}
use Rattle.pp_laws_left.proofs.ReadyRefusals.{any_owed, as_was, configured_off, deciding_rests, event_off, handling_not, idle_no_ack, idle_no_op, opened_off, opening_not, paid_off, refused_within, rested_off, taken_idle, woken_off}
use Rattle.pp_laws_left.proofs.Unended.{another_first, begun_in, decision_some, loaded_phase, makes_some, memory_none}

phase_seen : (s t : State) → seen t ≡ seen s → t.phase ≡ s.phase
phase_seen s t is = ap (λ (v : Seen). v.phase) is

deciding_idle : (s : State) → Idle (come_to_decide s) → Idle (deciding s)
unfolding deciding
deciding_idle s h = h

closing_of : (a b : Bool) → (a || b) ≡ true → b ≡ false → a ≡ true
closing_of true b is off = refl
closing_of false true is off = absurd (cc off)
closing_of false false is off = absurd (cc is)

owed_read : (a b : Bool) → a ≡ true → (a || b) ≡ true
owed_read true b is = refl
owed_read false b is = absurd (cc is)

-- ---- a row leaves

start_off : (terms : List Term) → Rests (start terms)
start_off terms = at_rests Before (start terms) refl refl

three_first : (a b c : Bool) → (a && b && c) ≡ true → a ≡ true
three_first true b c is = refl
three_first false b c is = absurd (cc is)

left-rests : (terms : List Term) (log : Log) (how : Leaving) (s : State) (key : Bytes) → Comes terms log s → leaving_as s key ≡ Some how → Rests (leave_memory how s)
unfolding leave_memory forget
left-rests terms log ForAnother s key h is =
    at_rests Evicting _ (come_at Evicting (λ t. is_first key t.forgotten) s (another_first (may_in Evicting (λ t. is_first key t.forgotten) s) (may_in Evicting (λ t. is_empty t.forgotten) s) (row s key) (before_decision s key) is)) refl
left-rests terms log (ForMemory x) s key h is =
    at_rests Evicting (refused_row x (come_to Evicting s)) (phase_kept (come_to Evicting s) (refused_row x (come_to Evicting s)) (refused_row-stays x (come_to Evicting s) (stays refl)) ∙ come_at Evicting (λ t. is_empty t.forgotten) s (memory_none (may_in Evicting (λ t. is_first key t.forgotten) s) (may_in Evicting (λ t. is_empty t.forgotten) s) (row s key) (before_decision s key) x is)) refl
left-rests terms log (BeforeDecision x) s key h is = record {
  idle = λ on. (come_to_decide_comes terms log s h).rests.idle on;
  ready = λ none runs late. late_none late none;
}
  where
    decided_ : before_decision s key ≡ None → ⊥
    decided_ = decision_some (may_in Evicting (λ t. is_first key t.forgotten) s) (may_in Evicting (λ t. is_empty t.forgotten) s) (row s key) (before_decision s key) x is

    on : decides (come_to_decide s) ≡ true
    on = by (decides (come_to_decide s)) refl
      where
        by : (b : Bool) → decides (come_to_decide s) ≡ b → b ≡ true
        by true at = refl
        by false at = absurd (decided_ (ap (λ t. elim t as (λ y. Option Instance) [ true ↦ makes_room (come_to_decide s) key | false ↦ None ]) at))

    not_connecting : (come_to_decide s).phase ≡ Connecting → ⊥
    not_connecting at = by (is_at Deciding (come_to_decide s)) refl on
      where
        by : (b : Bool) → is_at Deciding (come_to_decide s) ≡ b → (elim b as (λ y. Bool) [ true ↦ not (is_done (come_to_decide s)) | false ↦ is_at DecidingAgain (come_to_decide s) ]) ≡ true → ⊥
        by true is_ so = let both : Deciding ≡ Connecting = sym (at_phase Deciding (come_to_decide s) is_) ∙ at in cc both
        by false is_ so = let both : DecidingAgain ≡ Connecting = sym (at_phase DecidingAgain (come_to_decide s) so) ∙ at in cc both

    late_none : {A : Type 0} → IsLate (come_to_decide s).phase → ((come_to_decide s).phase ≡ DecidingAgain → decides_for (first_due (come_to_decide s)) ≡ None) → A
    late_none (inl at) none = absurd (not_connecting at)
    late_none (inr at) none = absurd (makes_some s key decided_ (none at))

forgotten-rests : (terms : List Term) (log : Log) (key : Bytes) (s : State) → Comes terms log s → Rests (forgotten_by key s)
unfolding forgotten_by
forgotten-rests terms log key s h = by (leaving_as s key) refl
  where
    by : (o : Option Leaving) → leaving_as s key ≡ o → Rests (elim o as (λ c. State) [ None ↦ s | Some how ↦ leave_memory how s ])
    by None is = h.rests
    by (Some how) is = left-rests terms log how s key h is

-- ---- the disk

op-rests : (op : DiskOp) (s : State) → permits_began s op ≡ true → Rests (begun_op op s)
unfolding begun_op
op-rests op s may = by (is_opening s) refl
  where
    by : (t : Bool) → is_opening s ≡ t → Rests (elim t as (λ c. State) [ true ↦ begin_in_opening op s | false ↦ begin_in_turn op (come_to Keeping s) ])
    by true is = as_was s (begin_in_opening op s) (phase_seen s (begin_in_opening op s) (opening_begun_seen op s)) (opening_not s is)
    by false isnt = at_rests Keeping (begin_in_turn op (come_to Keeping s)) (phase_seen (come_to Keeping s) (begin_in_turn op (come_to Keeping s)) (turn_begun_seen op (come_to Keeping s)) ∙ begun_in op s may isnt) refl

unread_phase : (name : Bytes) (s : State) → (unread name s).phase ≡ s.phase
unfolding unread
unread_phase name s = let t : State = lose_in_opening name (close_name name s) in paid_phase t ∙ phase_seen s t (lost_seen name (close_name name s) ∙ closed_seen name s)

unread_never : (terms : List Term) (log : Log) (name : Bytes) (s : State) → Obeys terms s log → permits_unread s name ≡ true → is_behind s.phase ≡ true → ⊥
unread_never terms log name s obeys may on = by (may_fail_to_recover s name) refl (second_holds (is_at_rest s) (may_fail_to_recover s name || list_any (may_fail_to_load s name) s.clients) may)
  where
    by : (b : Bool) → may_fail_to_recover s name ≡ b → (b || list_any (may_fail_to_load s name) s.clients) ≡ true → ⊥
    by true is at = let both : false ≡ true = sym (ap is_behind (at_phase IsListed s (first_holds (is_at IsListed s) (not (is_closed s name)) is))) ∙ on in cc both
    by false is at = let w = any_owed (may_fail_to_load s name) s s.clients (λ c hit. three_first (is_writing s.owed c.number) (is_at_body c) (is_some_with (loads_from s name) (next_of s c)) hit) at in handling_not s (handles terms s log w.0 obeys w.1) on

loaded_never : (terms : List Term) (log : Log) (key tag : Bytes) (n i : ℕ) (s : State) → Obeys terms s log → list_any (may_load s key tag n i) s.clients ≡ true → is_behind s.phase ≡ true → ⊥
loaded_never terms log key tag n i s obeys may on = let w = any_owed (may_load s key tag n i) s s.clients (λ c hit. three_first (is_writing s.owed c.number) (is_at_body c) (is_some_with (λ x. may_load_at s x key tag n i) (next_of s c)) hit) may in handling_not s (handles terms s log w.0 obeys w.1) on

-- ---- in the phase of connections

idle_parts : (s t : State) → (t.agenda ≡ s.agenda) × (t.under_way ≡ s.under_way) × (t.made_room_for ≡ s.made_room_for) × (t.is_stopped ≡ s.is_stopped) → Idle s → Idle t
idle_parts s t f h = ap (λ (a : Agenda). is_empty a.todo && not (is_some t.under_way)) f.0 ∙ ap (λ (o : Option DiskOp). is_empty s.agenda.todo && not (is_some o)) f.1 ∙ h

shut-rests : (terms : List Term) (log : Log) (n : ℕ) (s : State) → may_in Connecting (λ t. list_any (may_shut t n) t.clients) s ≡ true → Comes terms log (come_to Connecting s) → Rests (shut n (come_to Connecting s))
shut-rests terms log n s may u = connected s (shut n (come_to Connecting s)) (come_at Connecting (λ t. list_any (may_shut t n) t.clients) s may) (phase_kept (come_to Connecting s) _ (shut-stays n (come_to Connecting s) (stays refl))) (idle_framed (come_to Connecting s) (shut n (come_to Connecting s)) f) (λ runs. sym (ap (λ (o : Frame). o.is_stopped) f) ∙ runs) (λ runs ready. shuts_keep terms (come_to Connecting s) log u.obeys n (closing runs) ready) u.rests
  where
    f : frame true (shut n (come_to Connecting s)) ≡ frame true (come_to Connecting s)
    f = frame_of {all = true} (shut-stays n (come_to Connecting s) (stays refl))

    closing : (come_to Connecting s).is_stopped ≡ false → (c : Client) → IsIn c (come_to Connecting s).clients → c.number ≡ n → c.is_closing ≡ true
    closing runs c i number =
        let test = (gate (is_at Connecting (come_to Connecting s)) (list_any (may_shut (come_to Connecting s) n) (come_to Connecting s).clients) may).1 in
        let w = any_in (may_shut (come_to Connecting s) n) (come_to Connecting s).clients test in
        let its : w.0.number ≡ n = same_number w.0.number n (first_holds (is_client n w.0) (w.0.is_closing || (come_to Connecting s).is_stopped) w.2) in
        let one : c ≡ w.0 = (facts_of (owned_on terms (come_to Connecting s) log u.obeys)).callers c w.0 i w.1 (number ∙ sym its) in
        ap (λ (x : Client). x.is_closing) one ∙ closing_of w.0.is_closing (come_to Connecting s).is_stopped (second_holds (is_client n w.0) (w.0.is_closing || (come_to Connecting s).is_stopped) w.2) runs

dial-rests : (terms : List Term) (log : Log) (n : ℕ) (host : Bytes) (port : ℕ) (s : State) → may_in Connecting (λ t. may_dial t host port) s ≡ true → Comes terms log (come_to Connecting s) → Rests (dialled n host port (placing (come_to Connecting s)))
dial-rests terms log n host port s may u = let f = dialled_frame n host port (come_to Connecting s) in connected s (dialled n host port (placing (come_to Connecting s))) (come_at Connecting (λ t. may_dial t host port) s may) (dialled_phase n host port (come_to Connecting s)) (idle_parts (come_to Connecting s) (dialled n host port (placing (come_to Connecting s))) f) (λ runs. sym f.3 ∙ runs) (λ runs ready. (places_keep (come_to Connecting s) ready).1 n host port) u.rests

undial-rests : (terms : List Term) (log : Log) (host : Bytes) (port : ℕ) (s : State) → may_in Connecting (λ t. may_dial t host port) s ≡ true → Comes terms log (come_to Connecting s) → Rests (undialled (placing (come_to Connecting s)))
undial-rests terms log host port s may u = let f = undialled_frame (come_to Connecting s) in connected s (undialled (placing (come_to Connecting s))) (come_at Connecting (λ t. may_dial t host port) s may) (undialled_phase (come_to Connecting s)) (idle_parts (come_to Connecting s) (undialled (placing (come_to Connecting s))) f) (λ runs. sym f.3 ∙ runs) (λ runs ready. refusals_keep terms (come_to Connecting s) log u.obeys runs (λ e. refused_within terms (come_to Connecting s) log u.obeys e) ready) u.rests

drop-rests : (terms : List Term) (log : Log) (n : ℕ) (s : State) → may_in Connecting (λ t. may_drop t n) s ≡ true → Comes terms log (come_to Connecting s) → Rests (dropped n (come_to Connecting s))
drop-rests terms log n s may u = let f = dropped_frame n (come_to Connecting s) in connected s (dropped n (come_to Connecting s)) (come_at Connecting (λ t. may_drop t n) s may) (dropped_phase n (come_to Connecting s)) (idle_framed (come_to Connecting s) (dropped n (come_to Connecting s)) f) (λ runs. sym (ap (λ (o : Frame). o.is_stopped) f) ∙ runs) (λ runs ready. (places_keep (come_to Connecting s) ready).2 n) u.rests

-- ---- happening by happening

noted-rests : (terms : List Term) (log : Log) (remark : Remark) (s : State) → permits s (Noted remark) ≡ true → Comes terms log s → Rests (noted remark s)
unfolding noted permits
noted-rests terms log (Taken c i d) s may h = deciding_rests _ s (taken_phase c d (deciding s) ∙ deciding_phase s) (taken_idle c d s) (gate (decides (come_to_decide s)) (may_take (come_to_decide s) c i d) may).0 (come_to_decide_comes terms log s h).rests
noted-rests terms log (Cut c cause) s may h = deciding_rests _ s (phase_kept (deciding s) _ (close_client-stays c true (deciding s) (stays refl)) ∙ deciding_phase s) (λ idle. idle_framed (deciding s) (close_client c true (deciding s)) (frame_of {all = true} (close_client-stays c true (deciding s) (stays refl))) (deciding_idle s idle)) (gate (decides (come_to_decide s)) (may_cut (come_to_decide s) c cause) may).0 (come_to_decide_comes terms log s h).rests
noted-rests terms log (Kept key tag n extent) s may h = as_was s (note_kept key extent s) (phase_seen s (note_kept key extent s) (kept_seen key extent s)) (λ on. idle_no_ack s key tag n extent (h.rests.idle on) (second_holds (is_idle_disk s) (is_acknowledged_as key tag n extent s.agenda.todo) may))
noted-rests terms log (Gone key) s may h = at_rests Keeping (note_gone key (come_to Keeping s)) (phase_seen (come_to Keeping s) (note_gone key (come_to Keeping s)) (gone_seen key (come_to Keeping s)) ∙ come_at Keeping (λ t. may_note_gone t key) s may) refl
noted-rests terms log (Forgotten key) s may h = forgotten-rests terms log key s h
noted-rests terms log (Evicted key tag n i) s may h = at_rests Evicting _ (phase_kept (come_to Evicting s) _ (evicted-stays (come_to Evicting s) (stays refl)) ∙ come_at Evicting (λ t. may_evict t key tag n i) s may) refl
noted-rests terms log (Loaded key tag n i) s may h = as_was s _ (loaded_phase key i s) (loaded_never terms log key tag n i s h.obeys (second_holds (is_at_rest s) (list_any (may_load s key tag n i) s.clients) may))

changed-rests : (terms : List Term) (log : Log) (s : State) (h : Happening) → IsPermitted s h → permits s h ≡ true → Comes terms log s → Rests (changed s h)
unfolding changed permits
changed-rests terms log s (Woke image) is may h = woken_off image s
changed-rests terms log s (Waits w) is may h = rested_off w _
changed-rests terms log s (Clock seconds) is may h = event_off _
changed-rests terms log s (Opened n) is may h = event_off _
changed-rests terms log s (CanRead n) is may h = event_off _
changed-rests terms log s (CanWrite n) is may h = event_off _
changed-rests terms log s (Heard c bytes) is may h = paid_off s _ (handles terms s log c h.obeys (heard_owed s c bytes is)) (hear-stays c bytes s (stays refl))
changed-rests terms log s (HungUp c) is may h = paid_off s _ (handles terms s log c h.obeys (hung_owed s c is)) (hang_up-stays c s (stays refl))
changed-rests terms log s (Said c offered bytes) is may h = paid_off s _ (handles terms s log c h.obeys (said_owed s c offered bytes is)) (said-stays c (length bytes) s (stays refl))
changed-rests terms log s (Shut c) is may h = shut-rests terms log c s may (come_to_comes terms log Connecting s h)
changed-rests terms log s (Dialled n host port) is may h = dial-rests terms log n host port s (second_holds (is_new_number s n) (may_in Connecting (λ t. may_dial t host port) s) may) (come_to_comes terms log Connecting s h)
changed-rests terms log s (Undialled host port) is may h = undial-rests terms log host port s (second_holds (may_fail s false) (may_in Connecting (λ t. may_dial t host port) s) may) (come_to_comes terms log Connecting s h)
changed-rests terms log s (Reached k) is may h = event_off _
changed-rests terms log s (Ended k) is may h = paid_off s _ (handles terms s log k h.obeys (ended_owed s k is)) (gone-stays true k s (stays refl))
changed-rests terms log s (Broke k) is may h = paid_off (event s) _ (event_handles s) (gone-stays false k (event s) (stays refl))
changed-rests terms log s (Asked k bytes) is may h = paid_off s _ (handles terms s log k h.obeys (asked_owed s k bytes is)) (ask-stays k (length bytes) s (stays refl))
changed-rests terms log s (Got k bytes) is may h = paid_off s _ (handles terms s log k h.obeys (got_owed s k bytes is)) (end_replies-stays _ (got-stays (length bytes) k bytes s (stays refl)))
changed-rests terms log s (Dropped k) is may h = drop-rests terms log k s may (come_to_comes terms log Connecting s h)
changed-rests terms log s (NoneYet n) is may h = paid_off s s (handles terms s log n h.obeys (owed_read (is_reading s.owed n) (is_writing s.owed n) may)) (stays refl)
changed-rests terms log s (Began op) is may h = op-rests op s may
changed-rests terms log s (Did op ok) is may h = as_was s (ended_op op ok s) (phase_seen s (ended_op op ok s) (ended_seen op ok s)) (λ on. idle_no_op s op (h.rests.idle on) (first_holds (may_end_op s op) (may_fail s ok) may))
changed-rests terms log s (Unread name) is may h = as_was s _ (unread_phase name s) (unread_never terms log name s h.obeys (second_holds (may_fail s false) (permits_unread s name) may))
changed-rests terms log s (Noted remark) is may h = noted-rests terms log remark s may h
changed-rests terms log s (Rooted folder) is may h = opened_off IsRooted true s refl
changed-rests terms log s (Listed ok) is may h = opened_off IsListed ok s refl
changed-rests terms log s (Listens port ok) is may h = opened_off IsListening ok s refl
changed-rests terms log s (Configured file text) is may h = configured_off text s
changed-rests terms log s (Printed text) is may h = as_was s s refl (opening_not s may)
changed-rests terms log s Stopped is may h = event_off _

-- ---- along a log, and some phases on

rests_steps : Steps Rests
rests_steps terms front h one now =
    let lawful : Lawful terms front = front_from (start terms) front (h ∷ []) one.lawful in
    changed-rests terms front (state_after terms front) h one.permitted (permitted_wide (state_after terms front) h one.permitted) (record { obeys = obeys_at_first terms front lawful; rests = now })

rests_at : (terms : List Term) (log : Log) → Lawful terms log → Rests (state_after terms log)
rests_at terms log lawful = along Rests (λ t. start_off t) rests_steps terms log [] (subst (λ (l : Log). Lawful terms l) (sym (append-nil log)) lawful)

pub rests_on : (terms : List Term) (s : State) (log : Log) → Obeys terms s log → Rests s
rests_on terms s log obeys = (obeying (Comes terms log) (λ t done h. next_comes terms log t done h) terms s log obeys (record { obeys = obeys_at_first terms log obeys.lawful; rests = rests_at terms log obeys.lawful })).rests

-- ---- the law

record Readied (terms : List Term) (log : Log) (s : State) : Type 0 where
  obeys : Obeys terms s log
  ready : s.is_stopped ≡ false → IsLate s.phase → IsReady s

readied_next : (terms : List Term) (log : Log) (s : State) → is_done s ≡ true → Readied terms log s → Readied terms log (next s)
readied_next terms log s done h = record {
  obeys = obeys_silently h.obeys done;
  ready = λ runs late. (let going : s.is_stopped ≡ false = sym (ap (λ (o : Frame). o.is_stopped) (next-frame true s)) ∙ runs in next_ready terms log s h.obeys going (h.ready going) s.phase refl (subst IsLate (next-phase s) late));
}

pub followers_are_ready : LateAreReady
followers_are_ready terms s log ends late = (obeying (Readied terms log) (λ t done h. readied_next terms log t done h) terms s log ends.obeys (record { obeys = obeys_at_first terms log ends.obeys.lawful; ready = λ runs at. (rests_at terms log ends.obeys.lawful).ready (λ is. absurd (early is)) runs at })).ready ends.runs late
  where
    early : (state_after terms log).phase ≡ DecidingAgain → ⊥
    early is = let both : true ≡ false = sym (ap (is_same_phase DecidingAgain) is) ∙ ends.early in cc both

pub ends_are_filled : EndsAreFilled
ends_are_filled terms s log ends = (ends_ready terms s log ends.obeys ends.runs ends.may (followers_are_ready terms s log ends) (λ u obeys. followed_are_within terms u log obeys)).filled
