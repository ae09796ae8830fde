-- Notes of decisions and of rows, the disk and the opening keep it.
use Rattle.std.proofs.Common.{◌≡◌, refl, ℕ, Bool, true, false, not, List, [], Option, Some, None, ap, ◌∙◌}
use Rattle.pp_conf.specs.Conf.{Settings}
use Rattle.pp_conf.specs.Words.{reading_of}
use Rattle.pp_world.specs.Files.{Files}
use Rattle.pp_world.specs.declared.note.Decision.{Decision}
use Rattle.pp_world.specs.declared.op.DiskOp.{DiskOp}
use Rattle.pp_law.specs.After.{begun_op, ended_op, evicted, forgotten_by, leave_memory, refused_row, take_decision, unread, waits_for_row}
use Rattle.pp_law.specs.Chunks.{note_use}
use Rattle.pp_law.specs.Connections.{client}
use Rattle.pp_law.specs.Leaving.{Leaving, ForAnother, ForMemory, BeforeDecision, leaving_as}
use Rattle.pp_law.specs.Lists.{Bytes, change}
use Rattle.pp_law.specs.Opening.{are_texts, begun, configured, is_opening, names_file, opened_to, settings_in, stuck, terms_behind, with_settings, woken}
use Rattle.pp_law.specs.Phases.{due_victim}
use Rattle.pp_law.specs.State.{State, Term, start, RowRefused, IsWoken, Evicting, Keeping, Client, Instance, Phase}
use Rattle.pp_law.specs.Store.{load, load_from}
use Rattle.pp_law.specs.Table.{forget, is_instance, kept_row, row}
use Rattle.pp_laws_turn.proofs.Cases.{each_of, each_so, when}
use Rattle.pp_laws_turn.proofs.Disk.{begin_in_opening-keeps, begin_in_turn-keeps, close_name-keeps, end_op-keeps, lose_in_opening-keeps}
use Rattle.pp_laws_turn.proofs.Rows.{drop_chunk-keeps}
use Rattle.pp_laws_turn.proofs.View.{Holds, facts_of, holds, is_late}
use Rattle.pp_laws_coming.proofs.Phases.{AtPhase, at_so, come_to-comes, come_to_decide-comes, stays_at}
use Rattle.pp_law.specs.Deciding.{decided}
use Rattle.pp_law.specs.Replies.{regained}
use Rattle.pp_laws_coming.proofs.Stills.{decided-phase}
use Rattle.pp_laws_coming.proofs.Clients.{clients_if-comes}
use Rattle.pp_laws_coming.proofs.Ended.{regained-comes}
use Rattle.pp_laws_coming.proofs.Events.{paid-comes}
use Rattle.pp_laws_coming.proofs.Facts.{Coming, Early}
use Rattle.pp_laws_coming.proofs.Followed.{Rests, decided-comes}
use Rattle.pp_laws_coming.proofs.Rows.{fewer_rows, row_out}
use Rattle.pp_laws_coming.proofs.Stays.{goes_as}

-- ---- notes

taken_phase : (c : Client) (d : Decision) (s : State) → (regained (record (decided c d s) { forgotten = []; made_room_for = None })).phase ≡ s.phase
unfolding regained
taken_phase c d s = decided-phase c d s

pub take_decision-comes : (n : ℕ) (d : Decision) (s : State) → is_late s.phase ≡ true → ((c : Client) → client s n ≡ Some c → Rests c d s) → Holds (Coming true) s → Holds AtPhase (take_decision n d s)
unfolding take_decision
take_decision-comes n d s late rests h =
    each_so (client s n) (λ none. at_so true s late h)
    (λ c found. at_so true _ (ap is_late (taken_phase c d s) ∙ late) (regained-comes _ (holds (facts_of (decided-comes c d s (rests c found) h)))))

pub evicted-comes : (s : State) → Holds AtPhase s → Holds AtPhase (evicted s)
unfolding evicted
evicted-comes s h = each_of (due_victim s) h (λ place. drop_chunk-keeps place.0 place.1 s h)

refused_row-comes : {late : Bool} → (x : Instance) (s : State) → Holds (Coming late) s → Holds (Coming late) (refused_row x s)
unfolding refused_row forget
refused_row-comes x s h =
    holds (row_out x.id (change (waits_for_row x.id) (λ c. record c { course = RowRefused }) s.clients) s.exchanges s.next_exchange s.instances s.next_instance
    (facts_of (clients_if-comes (waits_for_row x.id) (λ c. record c { course = RowRefused }) s (λ c. goes_as _ c refl refl refl refl refl) h)))

refused_row-at : (x : Instance) (s : State) → Holds AtPhase s → Holds AtPhase (refused_row x s)
unfolding refused_row forget
refused_row-at x s h = stays_at s (refused_row x s) refl (λ late ht. refused_row-comes x s ht) h

forget-comes : (id : ℕ) (s : State) → Holds AtPhase s → Holds AtPhase (forget id s)
unfolding forget
forget-comes id s h = holds (fewer_rows (λ x. not (is_instance id x)) s.clients s.exchanges s.next_exchange s.instances s.next_instance (facts_of h))

leave_memory-comes : (how : Leaving) (s : State) → Holds AtPhase s → Holds AtPhase (leave_memory how s)
unfolding leave_memory
leave_memory-comes ForAnother s h = holds (facts_of (come_to-comes Evicting s h))
leave_memory-comes (ForMemory x) s h = refused_row-at x _ (come_to-comes Evicting s h)
leave_memory-comes (BeforeDecision x) s h = holds (facts_of (forget-comes x.id _ (come_to_decide-comes s h)))

pub forgotten_by-comes : (key : Bytes) (s : State) → Holds AtPhase s → Holds AtPhase (forgotten_by key s)
unfolding forgotten_by
forgotten_by-comes key s h = each_of (leaving_as s key) h (λ how. leave_memory-comes how s h)

pub load-comes : (key : Bytes) (i : ℕ) (s : State) → Holds AtPhase s → Holds AtPhase (load key i s)
unfolding load load_from note_use
load-comes key i s h = each_of (row s key) h (λ x. each_of (kept_row s key) h (λ e. holds (facts_of h)))

-- ---- the disk, and the opening

pub begun_op-comes : (op : DiskOp) (s : State) → Holds AtPhase s → Holds AtPhase (begun_op op s)
unfolding begun_op
begun_op-comes op s h = when (is_opening s) (begin_in_opening-keeps op s h) (begin_in_turn-keeps op _ (come_to-comes Keeping s h))

pub ended_op-comes : (op : DiskOp) (ok : Bool) (s : State) → Holds AtPhase s → Holds AtPhase (ended_op op ok s)
unfolding ended_op
ended_op-comes op true s h = end_op-keeps op true s h
ended_op-comes op false s h = lose_in_opening-keeps s.agenda.name _ (end_op-keeps op false s h)

pub unread-comes : (name : Bytes) (s : State) → Holds AtPhase s → Holds AtPhase (unread name s)
unfolding unread
unread-comes name s h = paid-comes _ (lose_in_opening-keeps name _ (close_name-keeps name s h))

with_settings-comes : (o : Option Settings) (s : State) → Holds Early s → Holds AtPhase (with_settings o s)
unfolding with_settings
with_settings-comes None s h = holds (facts_of h)
with_settings-comes (Some c) s h = holds (facts_of h)

begun-comes : (s : State) → Holds Early s → Holds AtPhase (begun s)
unfolding begun
begun-comes s h = by (are_texts s.term)
  where
    by : (t : Bool) → Holds AtPhase (elim t as (λ c. State) [
      | false ↦ with_settings None s
      | true ↦ elim (names_file s.term) as (λ c. State) [ true ↦ record s { phase = IsWoken } | false ↦ with_settings (settings_in (reading_of s.term.words None)) s ]
    ])
    by false = with_settings-comes None s h
    by true = when (names_file s.term) (holds (facts_of h)) (with_settings-comes (settings_in (reading_of s.term.words None)) s h)

pub start-comes : (terms : List Term) → Holds AtPhase (start terms)
start-comes terms = holds (record {
  callers = λ c d i. absurd i;
  apart = λ d e i. absurd i;
  given = λ e i. absurd i;
  one = λ d e n i. absurd i;
  fresh = λ e i. absurd i;
  headed = λ e i. absurd i;
  placeless = λ e i. absurd i;
  rowed = λ x i. absurd i;
  settled = λ c i. absurd i;
  told = λ e n c i. absurd i;
})

pub woken-comes : (image : Files) (s : State) → Holds AtPhase (woken image s)
unfolding woken
woken-comes image s = begun-comes _ (holds (facts_of (start-comes (terms_behind s.terms))))

pub opened_to-comes : (phase : Phase) (ok : Bool) (s : State) → is_late phase ≡ false → Holds Early s → Holds AtPhase (opened_to phase ok s)
unfolding opened_to stuck
opened_to-comes phase true s early h = at_so false (record s { phase = phase }) early (holds (facts_of h))
opened_to-comes phase false s early h = holds (facts_of h)

pub configured-comes : (text : Option Bytes) (s : State) → Holds Early s → Holds AtPhase (configured text s)
unfolding configured stuck
configured-comes None s h = holds (facts_of h)
configured-comes (Some text) s h = with_settings-comes (settings_in (reading_of s.term.words (Some text))) s h
