-- What is done to rows and chunks, to the store and in the opening leaves clients, exchanges and connections as they are.
use Rattle.std.proofs.Common.{ℕ, nat_lt, Bool, true, false, List, find, Option, Some, None}
use Rattle.pp_conf.specs.Conf.{Settings}
use Rattle.pp_conf.specs.Words.{reading_of}
use Rattle.pp_fresh.specs.declared.aging.Times.{Times}
use Rattle.pp_text.specs.Fields.{Field}
use Rattle.pp_valid.specs.declared.version.Version.{Version}
use Rattle.pp_world.specs.declared.op.DiskOp.{DiskOp}
use Rattle.pp_law.specs.Chunks.{is_chunk, use_chunk, drop_chunk, note_use}
use Rattle.pp_law.specs.Lists.{Bytes}
use Rattle.pp_law.specs.Opening.{settings_in, with_settings, is_opening, stuck, opened_to, configured, lose_in_opening}
use Rattle.pp_law.specs.Repairs.{agenda_in_opening, begin_in_opening}
use Rattle.pp_law.specs.State.{State, Agenda, Entry, Instance, Phase}
use Rattle.pp_law.specs.Store.{remove_entry, note_gone, agenda_in_turn, begin_op, begin_in_turn, enter_next, close_name, is_of_draft, lose_draft, fail_op, end_op, lose_entry, note_kept, load_from, load}
use Rattle.pp_law.specs.Table.{is_entry_of, row, kept_row, row_on_disk, rows, idle_row, on_instance, forget, swept, clear, mark_row, forget_row, with_room, add_row, make_row, enter}
use Rattle.pp_laws_passed.proofs.SameCases.{by_list, by_todo, each_of, when}
use Rattle.pp_laws_passed.proofs.Same.{Same, alike, facts_of}

-- ---- instances

pub on_instance-same : {o : State} (id : ℕ) (f : Instance → Instance) (s : State) → Same o s → Same o (on_instance id f s)
unfolding on_instance
on_instance-same {o} id f s h = alike (facts_of h)

pub forget-same : {o : State} (id : ℕ) (s : State) → Same o s → Same o (forget id s)
unfolding forget
forget-same {o} id s h = alike (facts_of h)

pub swept-same : {o : State} (s : State) → Same o s → Same o (swept s)
unfolding swept
swept-same {o} s h = alike (facts_of h)

pub clear-same : {o : State} (key : Bytes) (s : State) → Same o s → Same o (clear key s)
unfolding clear
clear-same {o} key s h = swept-same _ (alike (facts_of h))

pub mark_row-same : {o : State} (id : ℕ) (s : State) → Same o s → Same o (mark_row id s)
unfolding mark_row
mark_row-same {o} id s h = alike (facts_of h)

forget_row-same : {o : State} (x : Instance) (s : State) → Same o s → Same o (forget_row x s)
unfolding forget_row
forget_row-same x s h = alike (facts_of (forget-same x.id s h))

with_room-same : {o : State} (s : State) → Same o s → Same o (with_room s)
unfolding with_room
with_room-same s h = when (nat_lt (rows s) 1024) h (each_of (idle_row s) h (λ x. forget_row-same x s h))

add_row-same : {o : State} (key : Bytes) (version : Version) (fields : List Field) (times : Times) (is_new : Bool) (s : State) → Same o s → Same o (add_row key version fields times is_new s)
unfolding add_row
add_row-same {o} key version fields times is_new s h =
    alike (facts_of h)

pub make_row-same : {o : State} (key : Bytes) (version : Version) (fields : List Field) (times : Times) (s : State) → Same o s → Same o (make_row key version fields times s)
unfolding make_row
make_row-same key version fields times s h = add_row-same key version fields times true _ (with_room-same _ (clear-same key s h))

pub enter-same : {o : State} (key : Bytes) (is_new : Bool) (s : State) → Same o s → Same o (enter key is_new s)
unfolding enter
enter-same key is_new s h = each_of (row s key) (each_of (row_on_disk s key) h (λ e. add_row-same key e.version e.fields e.times is_new _ (with_room-same s h))) (λ x. h)

-- ---- chunks

pub use_chunk-same : {o : State} (id i : ℕ) (s : State) → Same o s → Same o (use_chunk id i s)
unfolding use_chunk
use_chunk-same id i s h = each_of (find (is_chunk id i) s.chunks) h (λ c. alike (facts_of h))

pub drop_chunk-same : {o : State} (id i : ℕ) (s : State) → Same o s → Same o (drop_chunk id i s)
unfolding drop_chunk
drop_chunk-same id i s h = alike (facts_of h)

pub note_use-same : {o : State} (s : State) → Same o s → Same o (note_use s)
unfolding note_use
note_use-same s h = alike (facts_of h)

-- ---- the store

remove_entry-same : {o : State} (e : Entry) (s : State) → Same o s → Same o (remove_entry e s)
unfolding remove_entry
remove_entry-same e s h = alike (facts_of h)

pub note_gone-same : {o : State} (key : Bytes) (s : State) → Same o s → Same o (note_gone key s)
unfolding note_gone
note_gone-same key s h = each_of (find (is_entry_of key) s.entries) h (λ e. remove_entry-same e s h)

begin_op-same : {o : State} (op : DiskOp) (plan : Option Agenda) (s : State) → Same o s → Same o (begin_op op plan s)
unfolding begin_op
begin_op-same op None s h = h
begin_op-same op (Some a) s h = alike (facts_of h)

pub begin_in_turn-same : {o : State} (op : DiskOp) (s : State) → Same o s → Same o (begin_in_turn op s)
unfolding begin_in_turn
begin_in_turn-same op s h = begin_op-same op (agenda_in_turn op s) s h

pub begin_in_opening-same : {o : State} (op : DiskOp) (s : State) → Same o s → Same o (begin_in_opening op s)
unfolding begin_in_opening
begin_in_opening-same op s h = begin_op-same op (agenda_in_opening op s) s h

enter_next-same : {o : State} (s : State) → Same o s → Same o (enter_next s)
unfolding enter_next
enter_next-same s h = by_list s.agenda.todo h (λ todo agenda. by_todo todo (λ op. h) (λ e. alike (facts_of h)) (λ key tag n extent. h))

pub close_name-same : {o : State} (name : Bytes) (s : State) → Same o s → Same o (close_name name s)
unfolding close_name
close_name-same name s h = alike (facts_of h)

lose_draft-same : {o : State} (s : State) → Same o s → Same o (lose_draft s)
unfolding lose_draft
lose_draft-same s h = alike (facts_of h)

fail_op-same : {o : State} (op : DiskOp) (s : State) → Same o s → Same o (fail_op op s)
unfolding fail_op
fail_op-same op s h = when (is_of_draft op) (lose_draft-same s h) (close_name-same s.agenda.name s h)

pub end_op-same : {o : State} (op : DiskOp) (ok : Bool) (s : State) → Same o s → Same o (end_op op ok s)
unfolding end_op
end_op-same op true s h = enter_next-same _ (alike (facts_of h))
end_op-same op false s h = fail_op-same op _ (alike (facts_of h))

lose_entry-same : {o : State} (name : Bytes) (s : State) → Same o s → Same o (lose_entry name s)
unfolding lose_entry
lose_entry-same name s h = alike (facts_of h)

pub note_kept-same : {o : State} (key : Bytes) (extent : ℕ) (s : State) → Same o s → Same o (note_kept key extent s)
unfolding note_kept
note_kept-same key extent s h = alike (facts_of h)

load_from-same : {o : State} (x : Instance) (e : Entry) (i : ℕ) (s : State) → Same o s → Same o (load_from x e i s)
unfolding load_from
load_from-same x e i s h = note_use-same _ (alike (facts_of h))

pub load-same : {o : State} (key : Bytes) (i : ℕ) (s : State) → Same o s → Same o (load key i s)
unfolding load
load-same key i s h = each_of (row s key) h (λ x. each_of (kept_row s key) h (λ e. load_from-same x e i s h))

-- ---- the opening

with_settings-same : {o : State} (settings : Option Settings) (s : State) → Same o s → Same o (with_settings settings s)
unfolding with_settings
with_settings-same None s h = alike (facts_of h)
with_settings-same (Some settings) s h = alike (facts_of h)

stuck-same : {o : State} (s : State) → Same o s → Same o (stuck s)
unfolding stuck
stuck-same s h = alike (facts_of h)

pub opened_to-same : {o : State} (phase : Phase) (ok : Bool) (s : State) → Same o s → Same o (opened_to phase ok s)
unfolding opened_to
opened_to-same phase true s h = alike (facts_of h)
opened_to-same phase false s h = stuck-same s h

pub configured-same : {o : State} (text : Option Bytes) (s : State) → Same o s → Same o (configured text s)
unfolding configured
configured-same None s h = stuck-same s h
configured-same (Some text) s h = with_settings-same (settings_in (reading_of s.term.words (Some text))) s h

pub lose_in_opening-same : {o : State} (name : Bytes) (s : State) → Same o s → Same o (lose_in_opening name s)
unfolding lose_in_opening
lose_in_opening-same name s h = when (is_opening s) (lose_entry-same name s h) h
