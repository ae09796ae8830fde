-- What is done to rows and chunks, to the store and in the opening leaves replies as they are.
use Rattle.std.proofs.Common.{ℕ, nat_lt, Bool, true, false, List, find, Option, Some, None}
use Rattle.pp_fresh.specs.declared.aging.Times.{Times}
use Rattle.pp_text.specs.Fields.{Field}
use Rattle.pp_valid.specs.declared.version.Version.{Version}
use Rattle.pp_world.specs.declared.op.DiskOp.{DiskOp}
use Rattle.pp_law.specs.Chunks.{is_chunk, use_chunk, drop_chunk, note_use}
use Rattle.pp_law.specs.Lists.{Bytes}
use Rattle.pp_law.specs.Opening.{is_opening, lose_in_opening}
use Rattle.pp_law.specs.Repairs.{agenda_in_opening, begin_in_opening}
use Rattle.pp_law.specs.State.{State, Agenda, Entry, Instance}
use Rattle.pp_law.specs.Store.{remove_entry, note_gone, agenda_in_turn, begin_op, begin_in_turn, enter_next, close_name, is_of_draft, lose_draft, fail_op, end_op, lose_entry, note_kept, load_from, load}
use Rattle.pp_law.specs.Table.{is_entry_of, row, kept_row, row_on_disk, rows, idle_row, on_instance, forget, swept, clear, mark_row, forget_row, with_room, add_row, make_row, enter}
use Rattle.pp_laws_left.proofs.KeepCases.{by_list, by_todo, each_of, when}
use Rattle.pp_laws_left.proofs.Keep.{Keeps, facts_of, keeps}

-- ---- instances

pub on_instance-keeps : {exact : Bool} {o : State} (id : ℕ) (f : Instance → Instance) (s : State) → Keeps exact o s → Keeps exact o (on_instance id f s)
unfolding on_instance
on_instance-keeps {exact} {o} id f s h = keeps (facts_of h)

pub forget-keeps : {exact : Bool} {o : State} (id : ℕ) (s : State) → Keeps exact o s → Keeps exact o (forget id s)
unfolding forget
forget-keeps {exact} {o} id s h = keeps (facts_of h)

pub swept-keeps : {exact : Bool} {o : State} (s : State) → Keeps exact o s → Keeps exact o (swept s)
unfolding swept
swept-keeps {exact} {o} s h = keeps (facts_of h)

pub clear-keeps : {exact : Bool} {o : State} (key : Bytes) (s : State) → Keeps exact o s → Keeps exact o (clear key s)
unfolding clear
clear-keeps {exact} {o} key s h = swept-keeps _ (keeps (facts_of h))

pub mark_row-keeps : {exact : Bool} {o : State} (id : ℕ) (s : State) → Keeps exact o s → Keeps exact o (mark_row id s)
unfolding mark_row
mark_row-keeps {exact} {o} id s h = keeps (facts_of h)

forget_row-keeps : {exact : Bool} {o : State} (x : Instance) (s : State) → Keeps exact o s → Keeps exact o (forget_row x s)
unfolding forget_row
forget_row-keeps x s h = keeps (facts_of (forget-keeps x.id s h))

with_room-keeps : {exact : Bool} {o : State} (s : State) → Keeps exact o s → Keeps exact o (with_room s)
unfolding with_room
with_room-keeps s h = when (nat_lt (rows s) 1024) h (each_of (idle_row s) h (λ x. forget_row-keeps x s h))

add_row-keeps : {exact : Bool} {o : State} (key : Bytes) (version : Version) (fields : List Field) (times : Times) (is_new : Bool) (s : State) → Keeps exact o s → Keeps exact o (add_row key version fields times is_new s)
unfolding add_row
add_row-keeps {exact} {o} key version fields times is_new s h =
    keeps (facts_of h)

pub make_row-keeps : {exact : Bool} {o : State} (key : Bytes) (version : Version) (fields : List Field) (times : Times) (s : State) → Keeps exact o s → Keeps exact o (make_row key version fields times s)
unfolding make_row
make_row-keeps key version fields times s h = add_row-keeps key version fields times true _ (with_room-keeps _ (clear-keeps key s h))

pub enter-keeps : {exact : Bool} {o : State} (key : Bytes) (is_new : Bool) (s : State) → Keeps exact o s → Keeps exact o (enter key is_new s)
unfolding enter
enter-keeps key is_new s h = each_of (row s key) (each_of (row_on_disk s key) h (λ e. add_row-keeps key e.version e.fields e.times is_new _ (with_room-keeps s h))) (λ x. h)

-- ---- chunks

pub use_chunk-keeps : {exact : Bool} {o : State} (id i : ℕ) (s : State) → Keeps exact o s → Keeps exact o (use_chunk id i s)
unfolding use_chunk
use_chunk-keeps id i s h = each_of (find (is_chunk id i) s.chunks) h (λ c. keeps (facts_of h))

pub drop_chunk-keeps : {exact : Bool} {o : State} (id i : ℕ) (s : State) → Keeps exact o s → Keeps exact o (drop_chunk id i s)
unfolding drop_chunk
drop_chunk-keeps id i s h = keeps (facts_of h)

pub note_use-keeps : {exact : Bool} {o : State} (s : State) → Keeps exact o s → Keeps exact o (note_use s)
unfolding note_use
note_use-keeps s h = keeps (facts_of h)

-- ---- the store

remove_entry-keeps : {exact : Bool} {o : State} (e : Entry) (s : State) → Keeps exact o s → Keeps exact o (remove_entry e s)
unfolding remove_entry
remove_entry-keeps e s h = keeps (facts_of h)

pub note_gone-keeps : {exact : Bool} {o : State} (key : Bytes) (s : State) → Keeps exact o s → Keeps exact o (note_gone key s)
unfolding note_gone
note_gone-keeps key s h = each_of (find (is_entry_of key) s.entries) h (λ e. remove_entry-keeps e s h)

begin_op-keeps : {exact : Bool} {o : State} (op : DiskOp) (plan : Option Agenda) (s : State) → Keeps exact o s → Keeps exact o (begin_op op plan s)
unfolding begin_op
begin_op-keeps op None s h = h
begin_op-keeps op (Some a) s h = keeps (facts_of h)

pub begin_in_turn-keeps : {exact : Bool} {o : State} (op : DiskOp) (s : State) → Keeps exact o s → Keeps exact o (begin_in_turn op s)
unfolding begin_in_turn
begin_in_turn-keeps op s h = begin_op-keeps op (agenda_in_turn op s) s h

pub begin_in_opening-keeps : {exact : Bool} {o : State} (op : DiskOp) (s : State) → Keeps exact o s → Keeps exact o (begin_in_opening op s)
unfolding begin_in_opening
begin_in_opening-keeps op s h = begin_op-keeps op (agenda_in_opening op s) s h

enter_next-keeps : {exact : Bool} {o : State} (s : State) → Keeps exact o s → Keeps exact o (enter_next s)
unfolding enter_next
enter_next-keeps s h = by_list s.agenda.todo h (λ todo agenda. by_todo todo (λ op. h) (λ e. keeps (facts_of h)) (λ key tag n extent. h))

pub close_name-keeps : {exact : Bool} {o : State} (name : Bytes) (s : State) → Keeps exact o s → Keeps exact o (close_name name s)
unfolding close_name
close_name-keeps name s h = keeps (facts_of h)

lose_draft-keeps : {exact : Bool} {o : State} (s : State) → Keeps exact o s → Keeps exact o (lose_draft s)
unfolding lose_draft
lose_draft-keeps s h = keeps (facts_of h)

fail_op-keeps : {exact : Bool} {o : State} (op : DiskOp) (s : State) → Keeps exact o s → Keeps exact o (fail_op op s)
unfolding fail_op
fail_op-keeps op s h = when (is_of_draft op) (lose_draft-keeps s h) (close_name-keeps s.agenda.name s h)

pub end_op-keeps : {exact : Bool} {o : State} (op : DiskOp) (ok : Bool) (s : State) → Keeps exact o s → Keeps exact o (end_op op ok s)
unfolding end_op
end_op-keeps op true s h = enter_next-keeps _ (keeps (facts_of h))
end_op-keeps op false s h = fail_op-keeps op _ (keeps (facts_of h))

lose_entry-keeps : {exact : Bool} {o : State} (name : Bytes) (s : State) → Keeps exact o s → Keeps exact o (lose_entry name s)
unfolding lose_entry
lose_entry-keeps name s h = keeps (facts_of h)

pub note_kept-keeps : {exact : Bool} {o : State} (key : Bytes) (extent : ℕ) (s : State) → Keeps exact o s → Keeps exact o (note_kept key extent s)
unfolding note_kept
note_kept-keeps key extent s h = keeps (facts_of h)

load_from-keeps : {exact : Bool} {o : State} (x : Instance) (e : Entry) (i : ℕ) (s : State) → Keeps exact o s → Keeps exact o (load_from x e i s)
unfolding load_from
load_from-keeps x e i s h = note_use-keeps _ (keeps (facts_of h))

pub load-keeps : {exact : Bool} {o : State} (key : Bytes) (i : ℕ) (s : State) → Keeps exact o s → Keeps exact o (load key i s)
unfolding load
load-keeps key i s h = each_of (row s key) h (λ x. each_of (kept_row s key) h (λ e. load_from-keeps x e i s h))

-- ---- the opening

pub lose_in_opening-keeps : {exact : Bool} {o : State} (name : Bytes) (s : State) → Keeps exact o s → Keeps exact o (lose_in_opening name s)
unfolding lose_in_opening
lose_in_opening-keeps name s h = when (is_opening s) (lose_entry-keeps name s h) h
