-- The law: in its opening a life has nothing yet.
use Rattle.std.proofs.Common.{◌≡◌, refl, ℕ, zero, suc, Bool, true, false, ◌==◌, ◌&&◌, bytes_eq, [], ◌∷◌, length, Option, Some, None, sym, subst, ap, ◌∙◌}
use Rattle.std.specs.List.{list_any}
use Rattle.pp_conf.specs.Words.{file_of}
use Rattle.pp_world.specs.Log.{Log}
use Rattle.pp_world.specs.declared.event.Wants.{Wants}
use Rattle.pp_world.specs.declared.happening.Happening.{Happening}
use Rattle.pp_world.specs.declared.happening.Happening.TheVariants.{Woke, Waits, Clock, Opened, CanRead, CanWrite, Heard, HungUp, Said, Shut, Dialled, Undialled, Reached, Ended, Broke, Asked, Got, Dropped, NoneYet, Began, Did, Unread, Noted, Rooted, Listed, Listens, Configured, Printed, Stopped}
use Rattle.pp_world.specs.declared.note.Remark.{Remark}
use Rattle.pp_world.specs.declared.note.Remark.TheVariants.{Taken, Cut, Kept, Gone, Forgotten, Evicted, Loaded}
use Rattle.pp_world.specs.declared.op.DiskOp.{DiskOp}
use Rattle.pp_law.specs.After.{after, begun_op, changed, event, forgotten_by, leave_memory, noted, gone, paid, refused_row}
use Rattle.pp_law.specs.Asking.{fits_heard, is_read, is_reading, is_writing, read_limit}
use Rattle.pp_law.specs.Connections.{client}
use Rattle.pp_law.specs.Due.{decides_for, first_due}
use Rattle.pp_law.specs.Lawful.{LawfulFrom}
use Rattle.pp_law.specs.Leaving.{Leaving, ForAnother, ForMemory, BeforeDecision, leaving_as}
use Rattle.pp_law.specs.Lists.{Bytes, is_some_with}
use Rattle.pp_law.specs.Opening.{is_at, is_opening, is_recovered, is_same_phase, may_fail, opened_to}
use Rattle.pp_law.specs.Permits.{is_owed, may_dial, may_drop, may_evict, is_new_number, may_shut, permits}
use Rattle.pp_law.specs.Phases.{come_to, come_to_decide, deciding, is_free, may_in, next}
use Rattle.pp_law.specs.Replies.{regained}
use Rattle.pp_law.specs.Repairs.{begin_in_opening}
use Rattle.pp_law.specs.State.{State, Instance, Phase, IsConfigured, IsListed, IsListening, IsRooted, IsWoken, Handling, Evicting, Keeping, Deciding, Connecting, start}
use Rattle.pp_law.specs.Store.{begin_in_turn}
use Rattle.pp_law.specs.Table.{forget}
use Rattle.pp_law.specs.Turn.{rest_with}
use Rattle.pp_laws.specs.Runs.{after_all, state_after}
use Rattle.pp_laws.proofs.Tests.{first_holds, second_holds}
use Rattle.pp_obeys.specs.Obeys.{AreDone, phases_on}
use Rattle.pp_obeys.proofs.Frames.{stays}
use Rattle.pp_obeys.proofs.Obeying.{Good, after-good, log-good}
use Rattle.pp_obeys.proofs.Settled.{Settled, at_phase, come_at, owed_owes, reading_owes, writing_owes}
use Rattle.pp_obeys.proofs.Silent.{permitted_wide}
use Rattle.pp_obeys.proofs.StaysResponses.{got-stays}
use Rattle.pp_obeys.proofs.StaysTable.{close_client-stays}
use Rattle.pp_obeys.proofs.StaysTurns.{ask-stays, end_replies-stays, evicted-stays, gone-stays, hang_up-stays, hear-stays, said-stays, shut-stays}
use Rattle.pp_opening_law.specs.Openings.{IsUnused}
use Rattle.pp_laws_unused.specs.Unused.{OpeningsAreUnused}
use Rattle.pp_laws_unused.proofs.Opened.{configured_unused, forgotten_unused, loaded_early, opened_unused, refused_unused, unread_early, woken_unused}
use Rattle.pp_laws_unused.proofs.Seen.{Early, early_as, ended_seen, gone_seen, kept_seen, opening_begun_seen, turn_begun_seen}
use Rattle.pp_laws_unused.proofs.Turning.{come_to_decide_early, come_to_early, deciding_phase, dialled_phase, dropped_phase, event_early, next_early, opens, paid_phase, phase_kept, serves, taken_phase, undialled_phase}

-- ---- what is owed is owed while an event is handled

owing : (s : State) → is_free s.owed ≡ false → Settled s → s.phase ≡ Handling
owing s owes h = by (is_same_phase Handling s.phase) refl
  where
    by : (t : Bool) → is_same_phase Handling s.phase ≡ t → s.phase ≡ Handling
    by true is = at_phase Handling s is
    by false isnt = let both : false ≡ true = sym owes ∙ ap is_free (h.free isnt) in absurd (cc both)

-- what is done for an event stays in its phase
worked : (s x : State) → s.phase ≡ Handling → x.phase ≡ s.phase → Early (paid x)
worked s x at same = serves Handling (paid x) (paid_phase x ∙ same ∙ at) refl

-- ---- rows, and the disk

refused_still : (x : Instance) (t : State) → is_opening (refused_row x t) ≡ true → is_opening t ≡ true
unfolding refused_row forget
refused_still x t is = is

forgotten_still : (n : ℕ) (t : State) → is_opening (forget n t) ≡ true → is_opening t ≡ true
unfolding forget
forgotten_still n t is = is

-- a row leaves for a decision
made_room : (n : ℕ) (who : Option ℕ) (t : State) → IsUnused t → IsUnused (record (forget n t) { made_room_for = who })
made_room n who t u = let v = forgotten_unused n t u in
    record { clients = v.clients; conns = v.conns; exchanges = v.exchanges; begun = v.begun; instances = v.instances; chunks = v.chunks; clock = v.clock; still = v.still; goes = v.goes }

left_early : (how : Leaving) (s : State) → Early s → Early (leave_memory how s)
unfolding leave_memory
left_early ForAnother s h = early_as (come_to Evicting s) _ refl (come_to_early Evicting s h)
left_early (ForMemory x) s h = λ is. refused_unused x (come_to Evicting s) (come_to_early Evicting s h (refused_still x (come_to Evicting s) is))
left_early (BeforeDecision x) s h = λ is. made_room x.id (decides_for (first_due (come_to_decide s))) (come_to_decide s) (come_to_decide_early s h (forgotten_still x.id (come_to_decide s) is))

forgotten_early : (key : Bytes) (s : State) → Early s → Early (forgotten_by key s)
unfolding forgotten_by
forgotten_early key s h = by (leaving_as s key)
  where
    by : (o : Option Leaving) → Early (elim o as (λ c. State) [ None ↦ s | Some how ↦ leave_memory how s ])
    by None = h
    by (Some how) = left_early how s h

begun_early : (op : DiskOp) (s : State) → Early s → Early (begun_op op s)
unfolding begun_op
begun_early op s h = by (is_opening s)
  where
    by : (t : Bool) → Early (elim t as (λ c. State) [ true ↦ begin_in_opening op s | false ↦ begin_in_turn op (come_to Keeping s) ])
    by true = early_as s _ (opening_begun_seen op s) h
    by false = early_as (come_to Keeping s) _ (turn_begun_seen op (come_to Keeping s)) (come_to_early Keeping s h)

noted_early : (remark : Remark) (s : State) → permits s (Noted remark) ≡ true → Early s → Early (noted remark s)
unfolding noted permits
noted_early (Taken c i d) s may h = serves Deciding _ (taken_phase c d (deciding s) ∙ deciding_phase s) refl
noted_early (Cut c cause) s may h = serves Deciding _ (phase_kept (deciding s) _ (close_client-stays c true (deciding s) (stays refl)) ∙ deciding_phase s) refl
noted_early (Kept key tag n extent) s may h = early_as s _ (kept_seen key extent s) h
noted_early (Gone key) s may h = early_as (come_to Keeping s) _ (gone_seen key (come_to Keeping s)) (come_to_early Keeping s h)
noted_early (Forgotten key) s may h = forgotten_early key s h
noted_early (Evicted key tag n i) s may h = serves Evicting _ (phase_kept (come_to Evicting s) _ (evicted-stays (come_to Evicting s) (stays refl)) ∙ come_at Evicting (λ t. may_evict t key tag n i) s may) refl
noted_early (Loaded key tag n i) s may h = loaded_early key i s h

-- ---- happening by happening

connecting : (test : State → Bool) (s x : State) → may_in Connecting test s ≡ true → x.phase ≡ (come_to Connecting s).phase → Early x
connecting test s x may same = serves Connecting x (same ∙ come_at Connecting test s may) refl

rested_early : (w : Wants) (s : State) → Early (rest_with w s)
unfolding rest_with
rested_early w s is = absurd (cc is)

opened_at : (p q : Phase) (ok : Bool) (s : State) → opens p ≡ true → is_at p s ≡ true → Early s → Early (opened_to q ok s)
opened_at p q ok s opening at h is = opened_unused q ok s (h (ap opens (at_phase p s at) ∙ opening))

handled : (s : State) → (event s).phase ≡ Handling
unfolding event regained
handled s = refl

-- it breaks off in the event
broken : (k : ℕ) (s : State) → Early (paid (gone false k (event s)))
broken k s = serves Handling _ (paid_phase (gone false k (event s)) ∙ phase_kept (event s) _ (gone-stays false k (event s) (stays refl)) ∙ handled s) refl

permitted_early : (s : State) (h : Happening) → permits s h ≡ true → Settled s → Early s → Early (changed s h)
unfolding changed permits
permitted_early s (Woke image) may good h = λ is. woken_unused image s
permitted_early s (Waits w) may good h = rested_early w _
permitted_early s (Clock seconds) may good h = event_early _
permitted_early s (Opened n) may good h = event_early _
permitted_early s (CanRead n) may good h = event_early _
permitted_early s (CanWrite n) may good h = event_early _
permitted_early s (Heard c bytes) may good h = worked s _ (owing s (reading_owes s.owed c (first_holds (is_reading s.owed c) (is_read read_limit bytes) (first_holds (is_reading s.owed c && is_read read_limit bytes) (is_some_with (fits_heard bytes) (client s c)) may))) good) (phase_kept s _ (hear-stays c bytes s (stays refl)))
permitted_early s (HungUp c) may good h = worked s _ (owing s (owed_owes s.owed c (first_holds (is_owed s c) _ may)) good) (phase_kept s _ (hang_up-stays c s (stays refl)))
permitted_early s (Said c offered bytes) may good h = worked s _ (owing s (writing_owes s.owed c (first_holds (is_writing s.owed c) _ may)) good) (phase_kept s _ (said-stays c (length bytes) s (stays refl)))
permitted_early s (Shut c) may good h = connecting (λ t. list_any (may_shut t c) t.clients) s _ may (phase_kept (come_to Connecting s) _ (shut-stays c (come_to Connecting s) (stays refl)))
permitted_early s (Dialled n host port) may good h = connecting (λ t. may_dial t host port) s _ (second_holds (is_new_number s n) _ may) (dialled_phase n host port (come_to Connecting s))
permitted_early s (Undialled host port) may good h = connecting (λ t. may_dial t host port) s _ (second_holds (may_fail s false) _ may) (undialled_phase (come_to Connecting s))
permitted_early s (Reached k) may good h = event_early _
permitted_early s (Ended k) may good h = worked s _ (owing s (reading_owes s.owed k (first_holds (is_reading s.owed k) _ may)) good) (phase_kept s _ (gone-stays true k s (stays refl)))
permitted_early s (Broke k) may good h = broken k s
permitted_early s (Asked k bytes) may good h = worked s _ (owing s (writing_owes s.owed k (first_holds (is_writing s.owed k) _ may)) good) (phase_kept s _ (ask-stays k (length bytes) s (stays refl)))
permitted_early s (Got k bytes) may good h = worked s _ (owing s (reading_owes s.owed k (first_holds (is_reading s.owed k) _ may)) good) (phase_kept s _ (end_replies-stays _ (got-stays (length bytes) k bytes s (stays refl))))
permitted_early s (Dropped k) may good h = connecting (λ t. may_drop t k) s _ may (dropped_phase k (come_to Connecting s))
permitted_early s (NoneYet n) may good h = worked s s (owing s (reading_owes s.owed n may) good) refl
permitted_early s (Began op) may good h = begun_early op s h
permitted_early s (Did op ok) may good h = early_as s _ (ended_seen op ok s) h
permitted_early s (Unread name) may good h = unread_early name s h
permitted_early s (Noted remark) may good h = noted_early remark s may h
permitted_early s (Rooted folder) may good h = opened_at IsConfigured IsRooted true s refl (first_holds (is_at IsConfigured s) _ may) h
permitted_early s (Listed ok) may good h = opened_at IsRooted IsListed ok s refl (first_holds (is_at IsRooted s) _ may) h
permitted_early s (Listens port ok) may good h =
    opened_at IsListed IsListening ok s refl (first_holds (is_at IsListed s) _ (first_holds (is_at IsListed s && (port == s.settings.port)) _ (first_holds (is_at IsListed s && (port == s.settings.port) && is_recovered s) _ may))) h
permitted_early s (Configured file text) may good h = λ is.
    configured_unused text s (h (ap opens (at_phase IsWoken s (first_holds (is_at IsWoken s) _ (first_holds (is_at IsWoken s && is_some_with (λ named. bytes_eq named file) (file_of s.term.words)) _ may)))))
permitted_early s (Printed text) may good h = h
permitted_early s Stopped may good h = event_early _

-- ---- all

all_early : (s : State) (log : Log) → LawfulFrom s log → Good s → Early s → Early (after_all s log)
all_early s [] lawful good h = h
all_early s (e ∷ log) lawful good h = all_early (after s e) log lawful.1 (after-good s e lawful.0 good) (permitted_early s e (permitted_wide s e lawful.0) good.settled h)

on_early : (n : ℕ) (s : State) → AreDone n s → Early s → Early (phases_on n s)
on_early zero s done h = h
on_early (suc n) s done h = on_early n (next s) done.1 (next_early s done.0)

pub openings_are_unused : OpeningsAreUnused
openings_are_unused terms s log obeys opening =
    let first : Early (state_after terms log) = all_early (start terms) log obeys.lawful (log-good terms [] tt) (λ is. absurd (cc is)) in
    subst Early obeys.goes.there (on_early obeys.goes.phases (state_after terms log) obeys.goes.done first) opening
