-- What is done to rows and chunks, to the store and in the opening leaves clients as they are.
use Rattle.std.proofs.Common.{ℕ, nat_lt, Bool, true, false, List, find, Option, Some, None}
use Rattle.pp_conf.specs.Conf.{Settings}
use Rattle.pp_conf.specs.Words.{reading_of}
use Rattle.pp_fresh.specs.declared.aging.Times.{Times}
use Rattle.pp_text.specs.Fields.{Field}
use Rattle.pp_valid.specs.declared.version.Version.{Version}
use Rattle.pp_world.specs.declared.op.DiskOp.{DiskOp}
use Rattle.pp_law.specs.Chunks.{is_chunk, use_chunk, drop_chunk, note_use}
use Rattle.pp_law.specs.Lists.{Bytes}
use Rattle.pp_law.specs.Opening.{settings_in, with_settings, is_opening, stuck, opened_to, configured, lose_in_opening}
use Rattle.pp_law.specs.Repairs.{agenda_in_opening, begin_in_opening}
use Rattle.pp_law.specs.State.{State, Agenda, Entry, Instance, Phase}
use Rattle.pp_law.specs.Store.{remove_entry, note_gone, agenda_in_turn, begin_op, begin_in_turn, enter_next, close_name, is_of_draft, lose_draft, fail_op, end_op, lose_entry, note_kept, load_from, load}
use Rattle.pp_law.specs.Table.{is_entry_of, row, kept_row, row_on_disk, rows, idle_row, on_instance, forget, swept, clear, mark_row, forget_row, with_room, add_row, make_row, enter}
use Rattle.pp_laws_served.proofs.Cases.{by_list, by_todo, each_of, when}
use Rattle.pp_laws_served.proofs.Heed.{Heeds, facts_of, heeds}

-- ---- instances

pub on_instance-heeds : {o : State} (id : ℕ) (f : Instance → Instance) (s : State) → Heeds o s → Heeds o (on_instance id f s)
unfolding on_instance
on_instance-heeds {o} id f s h = heeds (facts_of h)

pub forget-heeds : {o : State} (id : ℕ) (s : State) → Heeds o s → Heeds o (forget id s)
unfolding forget
forget-heeds {o} id s h = heeds (facts_of h)

pub swept-heeds : {o : State} (s : State) → Heeds o s → Heeds o (swept s)
unfolding swept
swept-heeds {o} s h = heeds (facts_of h)

pub clear-heeds : {o : State} (key : Bytes) (s : State) → Heeds o s → Heeds o (clear key s)
unfolding clear
clear-heeds {o} key s h = swept-heeds _ (heeds (facts_of h))

pub mark_row-heeds : {o : State} (id : ℕ) (s : State) → Heeds o s → Heeds o (mark_row id s)
unfolding mark_row
mark_row-heeds {o} id s h = heeds (facts_of h)

forget_row-heeds : {o : State} (x : Instance) (s : State) → Heeds o s → Heeds o (forget_row x s)
unfolding forget_row
forget_row-heeds x s h = heeds (facts_of (forget-heeds x.id s h))

with_room-heeds : {o : State} (s : State) → Heeds o s → Heeds o (with_room s)
unfolding with_room
with_room-heeds s h = when (nat_lt (rows s) 1024) h (each_of (idle_row s) h (λ x. forget_row-heeds x s h))

add_row-heeds : {o : State} (key : Bytes) (version : Version) (fields : List Field) (times : Times) (is_new : Bool) (s : State) → Heeds o s → Heeds o (add_row key version fields times is_new s)
unfolding add_row
add_row-heeds {o} key version fields times is_new s h =
    heeds (facts_of h)

pub make_row-heeds : {o : State} (key : Bytes) (version : Version) (fields : List Field) (times : Times) (s : State) → Heeds o s → Heeds o (make_row key version fields times s)
unfolding make_row
make_row-heeds key version fields times s h = add_row-heeds key version fields times true _ (with_room-heeds _ (clear-heeds key s h))

pub enter-heeds : {o : State} (key : Bytes) (is_new : Bool) (s : State) → Heeds o s → Heeds o (enter key is_new s)
unfolding enter
enter-heeds key is_new s h = each_of (row s key) (each_of (row_on_disk s key) h (λ e. add_row-heeds key e.version e.fields e.times is_new _ (with_room-heeds s h))) (λ x. h)

-- ---- chunks

pub use_chunk-heeds : {o : State} (id i : ℕ) (s : State) → Heeds o s → Heeds o (use_chunk id i s)
unfolding use_chunk
use_chunk-heeds id i s h = each_of (find (is_chunk id i) s.chunks) h (λ c. heeds (facts_of h))

pub drop_chunk-heeds : {o : State} (id i : ℕ) (s : State) → Heeds o s → Heeds o (drop_chunk id i s)
unfolding drop_chunk
drop_chunk-heeds id i s h = heeds (facts_of h)

pub note_use-heeds : {o : State} (s : State) → Heeds o s → Heeds o (note_use s)
unfolding note_use
note_use-heeds s h = heeds (facts_of h)

-- ---- the store

remove_entry-heeds : {o : State} (e : Entry) (s : State) → Heeds o s → Heeds o (remove_entry e s)
unfolding remove_entry
remove_entry-heeds e s h = heeds (facts_of h)

pub note_gone-heeds : {o : State} (key : Bytes) (s : State) → Heeds o s → Heeds o (note_gone key s)
unfolding note_gone
note_gone-heeds key s h = each_of (find (is_entry_of key) s.entries) h (λ e. remove_entry-heeds e s h)

begin_op-heeds : {o : State} (op : DiskOp) (plan : Option Agenda) (s : State) → Heeds o s → Heeds o (begin_op op plan s)
unfolding begin_op
begin_op-heeds op None s h = h
begin_op-heeds op (Some a) s h = heeds (facts_of h)

pub begin_in_turn-heeds : {o : State} (op : DiskOp) (s : State) → Heeds o s → Heeds o (begin_in_turn op s)
unfolding begin_in_turn
begin_in_turn-heeds op s h = begin_op-heeds op (agenda_in_turn op s) s h

pub begin_in_opening-heeds : {o : State} (op : DiskOp) (s : State) → Heeds o s → Heeds o (begin_in_opening op s)
unfolding begin_in_opening
begin_in_opening-heeds op s h = begin_op-heeds op (agenda_in_opening op s) s h

enter_next-heeds : {o : State} (s : State) → Heeds o s → Heeds o (enter_next s)
unfolding enter_next
enter_next-heeds s h = by_list s.agenda.todo h (λ todo agenda. by_todo todo (λ op. h) (λ e. heeds (facts_of h)) (λ key tag n extent. h))

pub close_name-heeds : {o : State} (name : Bytes) (s : State) → Heeds o s → Heeds o (close_name name s)
unfolding close_name
close_name-heeds name s h = heeds (facts_of h)

lose_draft-heeds : {o : State} (s : State) → Heeds o s → Heeds o (lose_draft s)
unfolding lose_draft
lose_draft-heeds s h = heeds (facts_of h)

fail_op-heeds : {o : State} (op : DiskOp) (s : State) → Heeds o s → Heeds o (fail_op op s)
unfolding fail_op
fail_op-heeds op s h = when (is_of_draft op) (lose_draft-heeds s h) (close_name-heeds s.agenda.name s h)

pub end_op-heeds : {o : State} (op : DiskOp) (ok : Bool) (s : State) → Heeds o s → Heeds o (end_op op ok s)
unfolding end_op
end_op-heeds op true s h = enter_next-heeds _ (heeds (facts_of h))
end_op-heeds op false s h = fail_op-heeds op _ (heeds (facts_of h))

lose_entry-heeds : {o : State} (name : Bytes) (s : State) → Heeds o s → Heeds o (lose_entry name s)
unfolding lose_entry
lose_entry-heeds name s h = heeds (facts_of h)

pub note_kept-heeds : {o : State} (key : Bytes) (extent : ℕ) (s : State) → Heeds o s → Heeds o (note_kept key extent s)
unfolding note_kept
note_kept-heeds key extent s h = heeds (facts_of h)

load_from-heeds : {o : State} (x : Instance) (e : Entry) (i : ℕ) (s : State) → Heeds o s → Heeds o (load_from x e i s)
unfolding load_from
load_from-heeds x e i s h = note_use-heeds _ (heeds (facts_of h))

pub load-heeds : {o : State} (key : Bytes) (i : ℕ) (s : State) → Heeds o s → Heeds o (load key i s)
unfolding load
load-heeds key i s h = each_of (row s key) h (λ x. each_of (kept_row s key) h (λ e. load_from-heeds x e i s h))

-- ---- the opening

with_settings-heeds : {o : State} (settings : Option Settings) (s : State) → Heeds o s → Heeds o (with_settings settings s)
unfolding with_settings
with_settings-heeds None s h = heeds (facts_of h)
with_settings-heeds (Some settings) s h = heeds (facts_of h)

stuck-heeds : {o : State} (s : State) → Heeds o s → Heeds o (stuck s)
unfolding stuck
stuck-heeds s h = heeds (facts_of h)

pub opened_to-heeds : {o : State} (phase : Phase) (ok : Bool) (s : State) → Heeds o s → Heeds o (opened_to phase ok s)
unfolding opened_to
opened_to-heeds phase true s h = heeds (facts_of h)
opened_to-heeds phase false s h = stuck-heeds s h

pub configured-heeds : {o : State} (text : Option Bytes) (s : State) → Heeds o s → Heeds o (configured text s)
unfolding configured
configured-heeds None s h = stuck-heeds s h
configured-heeds (Some text) s h = with_settings-heeds (settings_in (reading_of s.term.words (Some text))) s h

pub lose_in_opening-heeds : {o : State} (name : Bytes) (s : State) → Heeds o s → Heeds o (lose_in_opening name s)
unfolding lose_in_opening
lose_in_opening-heeds name s h = when (is_opening s) (lose_entry-heeds name s h) h
