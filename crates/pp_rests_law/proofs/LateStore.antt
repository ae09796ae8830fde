-- What is done to the store, and in the opening, keeps which rows stand late.
use Rattle.std.proofs.Common.{ℕ, Bool, true, false, find, List, [], ◌∷◌, ◌++◌, Option, Some, None}
use Rattle.pp_law.specs.Lists.{Bytes}
use Rattle.pp_law.specs.Opening.{is_opening, lose_in_opening}
use Rattle.pp_law.specs.Repairs.{agenda_in_opening, begin_in_opening}
use Rattle.pp_law.specs.State.{State, Agenda, Entry, Instance, Todo, Do, Enter, Acknowledge}
use Rattle.pp_law.specs.Store.{agenda_in_turn, begin_in_turn, begin_op, close_name, end_op, enter_next, fail_op, is_of_draft, left_todo, load, load_from, lose_draft, lose_entry, note_gone, note_kept, remove_entry}
use Rattle.pp_law.specs.Table.{is_entry_of, kept_row, row}
use Rattle.pp_world.specs.declared.op.DiskOp.{DiskOp}
use Rattle.pp_rests_law.proofs.LateCases.{each_of, when}
use Rattle.pp_rests_law.proofs.LateRows.{note_use-keeps}
use Rattle.pp_rests_law.proofs.LateView.{Holds, Keys, facts_of, holds}

-- ---- the store

remove_entry-keeps : {late : Keys} (e : Entry) (s : State) → Holds late s → Holds late (remove_entry e s)
unfolding remove_entry
remove_entry-keeps e s h = holds (facts_of h)

pub note_gone-keeps : {late : Keys} (key : Bytes) (s : State) → Holds late s → Holds late (note_gone key s)
unfolding note_gone
note_gone-keeps key s h = each_of (find (is_entry_of key) s.entries) h (λ e. remove_entry-keeps e s h)

begin_op-keeps : {late : Keys} (op : DiskOp) (plan : Option Agenda) (s : State) → Holds late s → Holds late (begin_op op plan s)
unfolding begin_op
begin_op-keeps op None s h = h
begin_op-keeps op (Some a) s h = holds (facts_of h)

pub begin_in_turn-keeps : {late : Keys} (op : DiskOp) (s : State) → Holds late s → Holds late (begin_in_turn op s)
unfolding begin_in_turn
begin_in_turn-keeps op s h = begin_op-keeps op (agenda_in_turn op s) s h

pub begin_in_opening-keeps : {late : Keys} (op : DiskOp) (s : State) → Holds late s → Holds late (begin_in_opening op s)
unfolding begin_in_opening
begin_in_opening-keeps op s h = begin_op-keeps op (agenda_in_opening op s) s h

enter_next-keeps : {late : Keys} (s : State) → Holds late s → Holds late (enter_next s)
unfolding enter_next
enter_next-keeps {late} s h = by s.agenda.todo
  where
    by : (todo : List Todo) → Holds late (elim todo as (λ c. State) [
      | [] ↦ s
      | next ∷ rest ↦ elim next as (λ c. State) [ Do op ↦ s | Acknowledge key tag n extent ↦ s | Enter e ↦ left_todo rest (record s { entries = s.entries ++ e ∷ [] }) ]
    ])
    by [] = h
    by (Do op ∷ rest) = h
    by (Acknowledge key tag n extent ∷ rest) = h
    by (Enter e ∷ rest) = holds (facts_of h)

pub close_name-keeps : {late : Keys} (name : Bytes) (s : State) → Holds late s → Holds late (close_name name s)
unfolding close_name
close_name-keeps name s h = holds (facts_of h)

lose_draft-keeps : {late : Keys} (s : State) → Holds late s → Holds late (lose_draft s)
unfolding lose_draft
lose_draft-keeps s h = holds (facts_of h)

fail_op-keeps : {late : Keys} (op : DiskOp) (s : State) → Holds late s → Holds late (fail_op op s)
unfolding fail_op
fail_op-keeps op s h = when (is_of_draft op) (lose_draft-keeps s h) (close_name-keeps s.agenda.name s h)

pub end_op-keeps : {late : Keys} (op : DiskOp) (ok : Bool) (s : State) → Holds late s → Holds late (end_op op ok s)
unfolding end_op
end_op-keeps op true s h = enter_next-keeps _ (holds (facts_of h))
end_op-keeps op false s h = fail_op-keeps op _ (holds (facts_of h))

lose_entry-keeps : {late : Keys} (name : Bytes) (s : State) → Holds late s → Holds late (lose_entry name s)
unfolding lose_entry
lose_entry-keeps name s h = holds (facts_of h)

pub note_kept-keeps : {late : Keys} (key : Bytes) (extent : ℕ) (s : State) → Holds late s → Holds late (note_kept key extent s)
unfolding note_kept
note_kept-keeps key extent s h = holds (facts_of h)

load_from-keeps : {late : Keys} (x : Instance) (e : Entry) (i : ℕ) (s : State) → Holds late s → Holds late (load_from x e i s)
unfolding load_from
load_from-keeps x e i s h = note_use-keeps _ (holds (facts_of h))

pub load-keeps : {late : Keys} (key : Bytes) (i : ℕ) (s : State) → Holds late s → Holds late (load key i s)
unfolding load
load-keeps key i s h = each_of (row s key) h (λ x. each_of (kept_row s key) h (λ e. load_from-keeps x e i s h))

pub lose_in_opening-keeps : {late : Keys} (name : Bytes) (s : State) → Holds late s → Holds late (lose_in_opening name s)
unfolding lose_in_opening
lose_in_opening-keeps name s h = when (is_opening s) (lose_entry-keeps name s h) h
