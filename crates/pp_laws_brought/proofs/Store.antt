-- What is done to the store, and in the opening, keeps what is still to come.
use Rattle.std.proofs.Common.{ℕ, Bool, true, false, List, [], ◌∷◌, ◌++◌, find, Option, Some, None}
use Rattle.pp_conf.specs.Conf.{Settings}
use Rattle.pp_conf.specs.Words.{reading_of}
use Rattle.pp_world.specs.declared.op.DiskOp.{DiskOp}
use Rattle.pp_law.specs.Lists.{Bytes}
use Rattle.pp_law.specs.Opening.{settings_in, with_settings, is_opening, stuck, opened_to, configured, lose_in_opening}
use Rattle.pp_law.specs.Repairs.{agenda_in_opening, begin_in_opening}
use Rattle.pp_law.specs.State.{State, Agenda, Entry, Instance, Phase, Todo, Do, Enter, Acknowledge}
use Rattle.pp_law.specs.Store.{agenda_in_turn, begin_in_turn, begin_op, close_name, end_op, enter_next, fail_op, is_of_draft, left_todo, load, load_from, lose_draft, lose_entry, note_gone, note_kept, remove_entry}
use Rattle.pp_law.specs.Table.{is_entry_of, kept_row, row}
use Rattle.pp_laws_brought.proofs.Cases.{each_of, when}
use Rattle.pp_laws_brought.proofs.Rows.{note_use-keeps}
use Rattle.pp_laws_brought.proofs.View.{Apart, Holds, facts_of, holds}

-- ---- the store

remove_entry-keeps : {but : Apart} (e : Entry) (s : State) → Holds but s → Holds but (remove_entry e s)
unfolding remove_entry
remove_entry-keeps e s h = holds (facts_of h)

pub note_gone-keeps : {but : Apart} (key : Bytes) (s : State) → Holds but s → Holds but (note_gone key s)
unfolding note_gone
note_gone-keeps key s h = each_of (find (is_entry_of key) s.entries) h (λ e. remove_entry-keeps e s h)

begin_op-keeps : {but : Apart} (op : DiskOp) (plan : Option Agenda) (s : State) → Holds but s → Holds but (begin_op op plan s)
unfolding begin_op
begin_op-keeps op None s h = h
begin_op-keeps op (Some a) s h = holds (facts_of h)

pub begin_in_turn-keeps : {but : Apart} (op : DiskOp) (s : State) → Holds but s → Holds but (begin_in_turn op s)
unfolding begin_in_turn
begin_in_turn-keeps op s h = begin_op-keeps op (agenda_in_turn op s) s h

pub begin_in_opening-keeps : {but : Apart} (op : DiskOp) (s : State) → Holds but s → Holds but (begin_in_opening op s)
unfolding begin_in_opening
begin_in_opening-keeps op s h = begin_op-keeps op (agenda_in_opening op s) s h

enter_next-keeps : {but : Apart} (s : State) → Holds but s → Holds but (enter_next s)
unfolding enter_next
enter_next-keeps {but} s h = by s.agenda.todo
  where
    by : (todo : List Todo) → Holds but (elim todo as (λ c. State) [
      | [] ↦ s
      | next ∷ rest ↦ elim next as (λ c. State) [ Do op ↦ s | Acknowledge key tag n extent ↦ s | Enter e ↦ left_todo rest (record s { entries = s.entries ++ e ∷ [] }) ]
    ])
    by [] = h
    by (Do op ∷ rest) = h
    by (Acknowledge key tag n extent ∷ rest) = h
    by (Enter e ∷ rest) = holds (facts_of h)

pub close_name-keeps : {but : Apart} (name : Bytes) (s : State) → Holds but s → Holds but (close_name name s)
unfolding close_name
close_name-keeps name s h = holds (facts_of h)

lose_draft-keeps : {but : Apart} (s : State) → Holds but s → Holds but (lose_draft s)
unfolding lose_draft
lose_draft-keeps s h = holds (facts_of h)

fail_op-keeps : {but : Apart} (op : DiskOp) (s : State) → Holds but s → Holds but (fail_op op s)
unfolding fail_op
fail_op-keeps op s h = when (is_of_draft op) (lose_draft-keeps s h) (close_name-keeps s.agenda.name s h)

pub end_op-keeps : {but : Apart} (op : DiskOp) (ok : Bool) (s : State) → Holds but s → Holds but (end_op op ok s)
unfolding end_op
end_op-keeps op true s h = enter_next-keeps _ (holds (facts_of h))
end_op-keeps op false s h = fail_op-keeps op _ (holds (facts_of h))

lose_entry-keeps : {but : Apart} (name : Bytes) (s : State) → Holds but s → Holds but (lose_entry name s)
unfolding lose_entry
lose_entry-keeps name s h = holds (facts_of h)

pub note_kept-keeps : {but : Apart} (key : Bytes) (extent : ℕ) (s : State) → Holds but s → Holds but (note_kept key extent s)
unfolding note_kept
note_kept-keeps key extent s h = holds (facts_of h)

load_from-keeps : {but : Apart} (x : Instance) (e : Entry) (i : ℕ) (s : State) → Holds but s → Holds but (load_from x e i s)
unfolding load_from
load_from-keeps x e i s h = note_use-keeps _ (holds (facts_of h))

pub load-keeps : {but : Apart} (key : Bytes) (i : ℕ) (s : State) → Holds but s → Holds but (load key i s)
unfolding load
load-keeps key i s h = each_of (row s key) h (λ x. each_of (kept_row s key) h (λ e. load_from-keeps x e i s h))

-- ---- the opening

with_settings-keeps : {but : Apart} (settings : Option Settings) (s : State) → Holds but s → Holds but (with_settings settings s)
unfolding with_settings
with_settings-keeps None s h = holds (facts_of h)
with_settings-keeps (Some settings) s h = holds (facts_of h)

stuck-keeps : {but : Apart} (s : State) → Holds but s → Holds but (stuck s)
unfolding stuck
stuck-keeps s h = holds (facts_of h)

pub opened_to-keeps : {but : Apart} (phase : Phase) (ok : Bool) (s : State) → Holds but s → Holds but (opened_to phase ok s)
unfolding opened_to
opened_to-keeps phase true s h = holds (facts_of h)
opened_to-keeps phase false s h = stuck-keeps s h

pub configured-keeps : {but : Apart} (text : Option Bytes) (s : State) → Holds but s → Holds but (configured text s)
unfolding configured
configured-keeps None s h = stuck-keeps s h
configured-keeps (Some text) s h = with_settings-keeps (settings_in (reading_of s.term.words (Some text))) s h

pub lose_in_opening-keeps : {but : Apart} (name : Bytes) (s : State) → Holds but s → Holds but (lose_in_opening name s)
unfolding lose_in_opening
lose_in_opening-keeps name s h = when (is_opening s) (lose_entry-keeps name s h) h
