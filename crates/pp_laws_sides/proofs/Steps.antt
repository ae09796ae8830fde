-- Reads, writes, notes, words of the disk and of the opening leave the numbers of clients and of connections, and begin no exchange.
use Rattle.std.proofs.Common.{refl, ℕ, Bool, true, false, Option, Some, None}
use Rattle.pp_conf.specs.Conf.{Settings}
use Rattle.pp_conf.specs.Words.{reading_of}
use Rattle.pp_world.specs.declared.op.DiskOp.{DiskOp}
use Rattle.pp_law.specs.After.{waits_for_row, event, owing, reached, paid, said, gone, evicted, brings_to, dropping_body, refused_row, ended_op, unread}
use Rattle.pp_law.specs.Chunks.{note_use}
use Rattle.pp_law.specs.Connections.{client, conn}
use Rattle.pp_law.specs.Lists.{Bytes, change}
use Rattle.pp_law.specs.Opening.{are_texts, begun, configured, names_file, opened_to, settings_in, stuck, with_settings}
use Rattle.pp_law.specs.Phases.{due_victim}
use Rattle.pp_law.specs.Replies.{said_by}
use Rattle.pp_law.specs.State.{State, RowRefused, Phase, IsWoken, Owed, Instance}
use Rattle.pp_law.specs.Table.{forget, kept_row, row}
use Rattle.pp_law.specs.Store.{load, load_from}
use Rattle.pp_laws.proofs.Callers.{said_by-same}
use Rattle.pp_laws_pool.proofs.View.{Holds, holds, facts_of, view}
use Rattle.pp_laws_pool.proofs.WalkCases.{each_of, when}
use Rattle.pp_laws_pool.proofs.WalkClients.{end_replies-keeps, regained-keeps, use_said-keeps}
use Rattle.pp_laws_pool.proofs.WalkDisk.{close_name-keeps, end_op-keeps, lose_in_opening-keeps}
use Rattle.pp_laws_pool.proofs.WalkExchanges.{clients_changed-keeps, exchanges_changed-keeps, on_client-keeps, same_ask}
use Rattle.pp_laws_pool.proofs.WalkPieces.{ended-keeps}
use Rattle.pp_laws_pool.proofs.WalkRows.{drop_chunk-keeps, forget-keeps}
use Rattle.pp_laws_pool.proofs.WalkSteps.{touch-keeps}
use Rattle.pp_laws_sides.proofs.Names.{Named, Names, named_walk, named_uses, on_conn-named}

-- ---- phases

-- ---- events

pub event-named : {o : Names} {m : ℕ} (s : State) → Holds (Named o m) s → Holds (Named o m) (event s)
unfolding event
event-named s h = regained-keeps (named_walk _ _) _ (holds (facts_of h))

pub paid-named : {o : Names} {m : ℕ} (s : State) → Holds (Named o m) s → Holds (Named o m) (paid s)
unfolding paid
paid-named s h = regained-keeps (named_walk _ _) _ (holds (facts_of h))

pub reached-named : {o : Names} {m : ℕ} (n : ℕ) (s : State) → Holds (Named o m) s → Holds (Named o m) (reached n s)
unfolding reached
reached-named n s h = touch-keeps (named_walk _ _) n _ (on_conn-named n _ s (λ k. refl) h)

pub owing-named : {o : Names} {m : ℕ} (owed : Owed) (n : ℕ) (s : State) → Holds (Named o m) s → Holds (Named o m) (event (owing owed n s))
unfolding owing
owing-named owed n s h = event-named _ (holds (facts_of (touch-keeps (named_walk _ _) n s h)))

pub said-named : {o : Names} {m : ℕ} (c n : ℕ) (s : State) → Holds (Named o m) s → Holds (Named o m) (said c n s)
unfolding said
said-named c n s h = each_of (client s c) h (λ x. end_replies-keeps (named_walk _ _) _ (on_client-keeps (named_walk _ _) c (said_by n) _ (λ y. (said_by-same n y).number) (use_said-keeps (named_uses _ _) n x s h)))

pub gone-named : {o : Names} {m : ℕ} (is_clean : Bool) (n : ℕ) (s : State) → Holds (Named o m) s → Holds (Named o m) (gone is_clean n s)
unfolding gone
gone-named is_clean n s h = each_of (conn s n) h (λ k. end_replies-keeps (named_walk _ _) _ (ended-keeps (named_walk _ _) is_clean k s h))

-- ---- notes

pub evicted-named : {o : Names} {m : ℕ} (s : State) → Holds (Named o m) s → Holds (Named o m) (evicted s)
unfolding evicted
evicted-named s h = each_of (due_victim s) h (λ place. drop_chunk-keeps (named_walk _ _) place.0 place.1 s h)

pub refused_row-named : {o : Names} {m : ℕ} (x : Instance) (s : State) → Holds (Named o m) s → Holds (Named o m) (refused_row x s)
unfolding refused_row
refused_row-named x s h =
    let told : State = record (forget x.id s) { clients = change (waits_for_row x.id) (λ c. record c { course = RowRefused }) (forget x.id s).clients } in
    holds (exchanges_changed-keeps (named_walk _ _) (brings_to x.id) dropping_body (view told) (λ e. same_ask _ e refl refl refl refl refl refl)
    (clients_changed-keeps (named_walk _ _) (waits_for_row x.id) (λ c. record c { course = RowRefused }) (view (forget x.id s)) (λ c. refl) (facts_of (forget-keeps (named_walk _ _) x.id s h))))

pub load-named : {o : Names} {m : ℕ} (key : Bytes) (i : ℕ) (s : State) → Holds (Named o m) s → Holds (Named o m) (load key i s)
unfolding load load_from note_use
load-named key i s h = each_of (row s key) h (λ x. each_of (kept_row s key) h (λ e. holds (facts_of h)))

-- ---- the disk, and the opening

pub ended_op-named : {o : Names} {m : ℕ} (op : DiskOp) (ok : Bool) (s : State) → Holds (Named o m) s → Holds (Named o m) (ended_op op ok s)
unfolding ended_op
ended_op-named op true s h = end_op-keeps op true s h
ended_op-named op false s h = lose_in_opening-keeps s.agenda.name _ (end_op-keeps op false s h)

pub unread-named : {o : Names} {m : ℕ} (name : Bytes) (s : State) → Holds (Named o m) s → Holds (Named o m) (unread name s)
unfolding unread
unread-named name s h = paid-named _ (lose_in_opening-keeps name _ (close_name-keeps name s h))

pub with_settings-named : {o : Names} {m : ℕ} (read : Option Settings) (s : State) → Holds (Named o m) s → Holds (Named o m) (with_settings read s)
unfolding with_settings
with_settings-named None s h = holds (facts_of h)
with_settings-named (Some c) s h = holds (facts_of h)

pub begun-named : {o : Names} {m : ℕ} (s : State) → Holds (Named o m) s → Holds (Named o m) (begun s)
unfolding begun
begun-named {o} {m} s h = by (are_texts s.term)
  where
    by : (t : Bool) → Holds (Named o m) (elim t as (λ c. State) [
      | false ↦ with_settings None s
      | true ↦ elim (names_file s.term) as (λ c. State) [ true ↦ record s { phase = IsWoken } | false ↦ with_settings (settings_in (reading_of s.term.words None)) s ]
    ])
    by false = with_settings-named None s h
    by true = when (names_file s.term) (holds (facts_of h)) (with_settings-named (settings_in (reading_of s.term.words None)) s h)

pub opened_to-named : {o : Names} {m : ℕ} (phase : Phase) (ok : Bool) (s : State) → Holds (Named o m) s → Holds (Named o m) (opened_to phase ok s)
unfolding opened_to stuck
opened_to-named phase true s h = holds (facts_of h)
opened_to-named phase false s h = holds (facts_of h)

pub configured-named : {o : Names} {m : ℕ} (text : Option Bytes) (s : State) → Holds (Named o m) s → Holds (Named o m) (configured text s)
unfolding configured stuck
configured-named None s h = holds (facts_of h)
configured-named (Some text) s h = with_settings-named (settings_in (reading_of s.term.words (Some text))) s h
