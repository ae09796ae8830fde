-- The disk keeps what is said of clients, connections, exchanges and chunks.
use Rattle.std.proofs.Common.{ℕ, Bool, true, false, find, Option, Some, None}
use Rattle.pp_world.specs.declared.op.DiskOp.{DiskOp}
use Rattle.pp_law.specs.Lists.{Bytes}
use Rattle.pp_law.specs.Opening.{is_opening, lose_in_opening}
use Rattle.pp_law.specs.Repairs.{agenda_in_opening, begin_in_opening}
use Rattle.pp_law.specs.State.{State, Agenda, Entry}
use Rattle.pp_law.specs.Store.{remove_entry, note_gone, agenda_in_turn, begin_op, begin_in_turn, enter_next, close_name, is_of_draft, lose_draft, fail_op, end_op, lose_entry, note_kept}
use Rattle.pp_law.specs.Table.{is_entry_of}
use Rattle.pp_laws_turn.proofs.View.{View, Holds, holds, facts_of}
use Rattle.pp_laws_turn.proofs.Cases.{by_list, by_todo, each_of, when}

-- ---- the store

remove_entry-keeps : {P : View → Type 0} (e : Entry) (s : State) → Holds P s → Holds P (remove_entry e s)
unfolding remove_entry
remove_entry-keeps e s h = holds (facts_of h)

pub note_gone-keeps : {P : View → Type 0} (key : Bytes) (s : State) → Holds P s → Holds P (note_gone key s)
unfolding note_gone
note_gone-keeps key s h = each_of (find (is_entry_of key) s.entries) h (λ e. remove_entry-keeps e s h)

begin_op-keeps : {P : View → Type 0} (op : DiskOp) (plan : Option Agenda) (s : State) → Holds P s → Holds P (begin_op op plan s)
unfolding begin_op
begin_op-keeps op None s h = h
begin_op-keeps op (Some todo) s h = holds (facts_of h)

pub begin_in_turn-keeps : {P : View → Type 0} (op : DiskOp) (s : State) → Holds P s → Holds P (begin_in_turn op s)
unfolding begin_in_turn
begin_in_turn-keeps op s h = begin_op-keeps op (agenda_in_turn op s) s h

pub begin_in_opening-keeps : {P : View → Type 0} (op : DiskOp) (s : State) → Holds P s → Holds P (begin_in_opening op s)
unfolding begin_in_opening
begin_in_opening-keeps op s h = begin_op-keeps op (agenda_in_opening op s) s h

enter_next-keeps : {P : View → Type 0} (s : State) → Holds P s → Holds P (enter_next s)
unfolding enter_next
enter_next-keeps s h = by_list s.agenda.todo h (λ todo agenda. by_todo todo (λ op. h) (λ e. holds (facts_of h)) (λ key tag n extent. h))

pub close_name-keeps : {P : View → Type 0} (name : Bytes) (s : State) → Holds P s → Holds P (close_name name s)
unfolding close_name
close_name-keeps name s h = holds (facts_of h)

lose_draft-keeps : {P : View → Type 0} (s : State) → Holds P s → Holds P (lose_draft s)
unfolding lose_draft
lose_draft-keeps s h = holds (facts_of h)

fail_op-keeps : {P : View → Type 0} (op : DiskOp) (s : State) → Holds P s → Holds P (fail_op op s)
unfolding fail_op
fail_op-keeps op s h = when (is_of_draft op) (lose_draft-keeps s h) (close_name-keeps s.agenda.name s h)

pub end_op-keeps : {P : View → Type 0} (op : DiskOp) (ok : Bool) (s : State) → Holds P s → Holds P (end_op op ok s)
unfolding end_op
end_op-keeps op true s h = enter_next-keeps _ (holds (facts_of h))
end_op-keeps op false s h = fail_op-keeps op _ (holds (facts_of h))

lose_entry-keeps : {P : View → Type 0} (name : Bytes) (s : State) → Holds P s → Holds P (lose_entry name s)
unfolding lose_entry
lose_entry-keeps name s h = holds (facts_of h)

pub note_kept-keeps : {P : View → Type 0} (key : Bytes) (extent : ℕ) (s : State) → Holds P s → Holds P (note_kept key extent s)
unfolding note_kept
note_kept-keeps key extent s h = holds (facts_of h)

pub lose_in_opening-keeps : {P : View → Type 0} (name : Bytes) (s : State) → Holds P s → Holds P (lose_in_opening name s)
unfolding lose_in_opening
lose_in_opening-keeps name s h = when (is_opening s) (lose_entry-keeps name s h) h
