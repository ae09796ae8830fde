-- What is done to rows and chunks, to the store and in the opening leaves each reply as it is.
use Rattle.std.proofs.Common.{refl, ℕ, nat_lt, Bool, true, false, not, List, find, Option, Some, None}
use Rattle.pp_conf.specs.Conf.{Settings}
use Rattle.pp_conf.specs.Words.{reading_of}
use Rattle.pp_fresh.specs.declared.aging.Times.{Times}
use Rattle.pp_text.specs.Fields.{Field}
use Rattle.pp_valid.specs.declared.version.Version.{Version}
use Rattle.pp_world.specs.declared.op.DiskOp.{DiskOp}
use Rattle.pp_law.specs.Chunks.{is_chunk, use_chunk, drop_chunk, note_use}
use Rattle.pp_law.specs.Lists.{Bytes}
use Rattle.pp_law.specs.Opening.{settings_in, with_settings, is_opening, stuck, opened_to, configured, lose_in_opening}
use Rattle.pp_law.specs.Repairs.{agenda_in_opening, begin_in_opening}
use Rattle.pp_law.specs.State.{State, Agenda, Entry, Instance, Phase}
use Rattle.pp_law.specs.Store.{remove_entry, note_gone, agenda_in_turn, begin_op, begin_in_turn, enter_next, close_name, is_of_draft, lose_draft, fail_op, end_op, lose_entry, note_kept, load_from, load}
use Rattle.pp_law.specs.Table.{is_entry_of, is_instance, is_row_of, is_left_over, row, kept_row, row_on_disk, rows, idle_row, on_instance, forget, swept, clear, mark_row, forget_row, with_room, add_row, make_row, enter}
use Rattle.pp_laws_replies.proofs.Cases.{by_list, by_todo, each_of, when}
use Rattle.pp_laws_replies.proofs.Quiet.{Quietly, SameRow, facts_of, quietly, row_pushed, rows_changed, rows_filtered, rows_moved}

-- ---- instances

pub on_instance-quiet : {o : State} (id : ℕ) (f : Instance → Instance) (s : State) → ((x : Instance) → SameRow (f x) x) → Quietly o s → Quietly o (on_instance id f s)
unfolding on_instance
on_instance-quiet {o} id f s kept h = quietly (rows_changed o s (is_instance id) f kept (facts_of h))

pub forget-quiet : {o : State} (id : ℕ) (s : State) → Quietly o s → Quietly o (forget id s)
unfolding forget
forget-quiet {o} id s h = quietly (rows_filtered o s (λ x. not (is_instance id x)) (facts_of h))

pub swept-quiet : {o : State} (s : State) → Quietly o s → Quietly o (swept s)
unfolding swept
swept-quiet {o} s h = quietly (rows_filtered o s (λ x. not (is_left_over s x)) (facts_of h))

pub clear-quiet : {o : State} (key : Bytes) (s : State) → Quietly o s → Quietly o (clear key s)
unfolding clear
clear-quiet {o} key s h = swept-quiet _ (quietly (rows_changed o s (is_row_of key) (λ x. record x { is_retired = true }) (λ x. record { id = refl; version = refl }) (facts_of h)))

pub mark_row-quiet : {o : State} (id : ℕ) (s : State) → Quietly o s → Quietly o (mark_row id s)
unfolding mark_row
mark_row-quiet {o} id s h = quietly (rows_moved o s (is_instance id) (facts_of h))

forget_row-quiet : {o : State} (x : Instance) (s : State) → Quietly o s → Quietly o (forget_row x s)
unfolding forget_row
forget_row-quiet x s h = quietly (facts_of (forget-quiet x.id s h))

with_room-quiet : {o : State} (s : State) → Quietly o s → Quietly o (with_room s)
unfolding with_room
with_room-quiet s h = when (nat_lt (rows s) 1024) h (each_of (idle_row s) h (λ x. forget_row-quiet x s h))

add_row-quiet : {o : State} (key : Bytes) (version : Version) (fields : List Field) (times : Times) (is_new : Bool) (s : State) → Quietly o s → Quietly o (add_row key version fields times is_new s)
unfolding add_row
add_row-quiet {o} key version fields times is_new s h =
    quietly (row_pushed o s (record { id = s.next_instance; key = key; version = version; fields = fields; times = times; is_retired = false; is_new = is_new }) refl (facts_of h))

pub make_row-quiet : {o : State} (key : Bytes) (version : Version) (fields : List Field) (times : Times) (s : State) → Quietly o s → Quietly o (make_row key version fields times s)
unfolding make_row
make_row-quiet key version fields times s h = add_row-quiet key version fields times true _ (with_room-quiet _ (clear-quiet key s h))

pub enter-quiet : {o : State} (key : Bytes) (is_new : Bool) (s : State) → Quietly o s → Quietly o (enter key is_new s)
unfolding enter
enter-quiet key is_new s h = each_of (row s key) (each_of (row_on_disk s key) h (λ e. add_row-quiet key e.version e.fields e.times is_new _ (with_room-quiet s h))) (λ x. h)

-- ---- chunks

pub use_chunk-quiet : {o : State} (id i : ℕ) (s : State) → Quietly o s → Quietly o (use_chunk id i s)
unfolding use_chunk
use_chunk-quiet id i s h = each_of (find (is_chunk id i) s.chunks) h (λ c. quietly (facts_of h))

pub drop_chunk-quiet : {o : State} (id i : ℕ) (s : State) → Quietly o s → Quietly o (drop_chunk id i s)
unfolding drop_chunk
drop_chunk-quiet id i s h = quietly (facts_of h)

pub note_use-quiet : {o : State} (s : State) → Quietly o s → Quietly o (note_use s)
unfolding note_use
note_use-quiet s h = quietly (facts_of h)

-- ---- the store

remove_entry-quiet : {o : State} (e : Entry) (s : State) → Quietly o s → Quietly o (remove_entry e s)
unfolding remove_entry
remove_entry-quiet e s h = quietly (facts_of h)

pub note_gone-quiet : {o : State} (key : Bytes) (s : State) → Quietly o s → Quietly o (note_gone key s)
unfolding note_gone
note_gone-quiet key s h = each_of (find (is_entry_of key) s.entries) h (λ e. remove_entry-quiet e s h)

begin_op-quiet : {o : State} (op : DiskOp) (plan : Option Agenda) (s : State) → Quietly o s → Quietly o (begin_op op plan s)
unfolding begin_op
begin_op-quiet op None s h = h
begin_op-quiet op (Some a) s h = quietly (facts_of h)

pub begin_in_turn-quiet : {o : State} (op : DiskOp) (s : State) → Quietly o s → Quietly o (begin_in_turn op s)
unfolding begin_in_turn
begin_in_turn-quiet op s h = begin_op-quiet op (agenda_in_turn op s) s h

pub begin_in_opening-quiet : {o : State} (op : DiskOp) (s : State) → Quietly o s → Quietly o (begin_in_opening op s)
unfolding begin_in_opening
begin_in_opening-quiet op s h = begin_op-quiet op (agenda_in_opening op s) s h

enter_next-quiet : {o : State} (s : State) → Quietly o s → Quietly o (enter_next s)
unfolding enter_next
enter_next-quiet s h = by_list s.agenda.todo h (λ todo agenda. by_todo todo (λ op. h) (λ e. quietly (facts_of h)) (λ key tag n extent. h))

pub close_name-quiet : {o : State} (name : Bytes) (s : State) → Quietly o s → Quietly o (close_name name s)
unfolding close_name
close_name-quiet name s h = quietly (facts_of h)

lose_draft-quiet : {o : State} (s : State) → Quietly o s → Quietly o (lose_draft s)
unfolding lose_draft
lose_draft-quiet s h = quietly (facts_of h)

fail_op-quiet : {o : State} (op : DiskOp) (s : State) → Quietly o s → Quietly o (fail_op op s)
unfolding fail_op
fail_op-quiet op s h = when (is_of_draft op) (lose_draft-quiet s h) (close_name-quiet s.agenda.name s h)

pub end_op-quiet : {o : State} (op : DiskOp) (ok : Bool) (s : State) → Quietly o s → Quietly o (end_op op ok s)
unfolding end_op
end_op-quiet op true s h = enter_next-quiet _ (quietly (facts_of h))
end_op-quiet op false s h = fail_op-quiet op _ (quietly (facts_of h))

lose_entry-quiet : {o : State} (name : Bytes) (s : State) → Quietly o s → Quietly o (lose_entry name s)
unfolding lose_entry
lose_entry-quiet name s h = quietly (facts_of h)

pub note_kept-quiet : {o : State} (key : Bytes) (extent : ℕ) (s : State) → Quietly o s → Quietly o (note_kept key extent s)
unfolding note_kept
note_kept-quiet key extent s h = quietly (facts_of h)

load_from-quiet : {o : State} (x : Instance) (e : Entry) (i : ℕ) (s : State) → Quietly o s → Quietly o (load_from x e i s)
unfolding load_from
load_from-quiet x e i s h = note_use-quiet _ (quietly (facts_of h))

pub load-quiet : {o : State} (key : Bytes) (i : ℕ) (s : State) → Quietly o s → Quietly o (load key i s)
unfolding load
load-quiet key i s h = each_of (row s key) h (λ x. each_of (kept_row s key) h (λ e. load_from-quiet x e i s h))

-- ---- the opening

with_settings-quiet : {o : State} (settings : Option Settings) (s : State) → Quietly o s → Quietly o (with_settings settings s)
unfolding with_settings
with_settings-quiet None s h = quietly (facts_of h)
with_settings-quiet (Some settings) s h = quietly (facts_of h)

stuck-quiet : {o : State} (s : State) → Quietly o s → Quietly o (stuck s)
unfolding stuck
stuck-quiet s h = quietly (facts_of h)

pub opened_to-quiet : {o : State} (phase : Phase) (ok : Bool) (s : State) → Quietly o s → Quietly o (opened_to phase ok s)
unfolding opened_to
opened_to-quiet phase true s h = quietly (facts_of h)
opened_to-quiet phase false s h = stuck-quiet s h

pub configured-quiet : {o : State} (text : Option Bytes) (s : State) → Quietly o s → Quietly o (configured text s)
unfolding configured
configured-quiet None s h = stuck-quiet s h
configured-quiet (Some text) s h = with_settings-quiet (settings_in (reading_of s.term.words (Some text))) s h

pub lose_in_opening-quiet : {o : State} (name : Bytes) (s : State) → Quietly o s → Quietly o (lose_in_opening name s)
unfolding lose_in_opening
lose_in_opening-quiet name s h = when (is_opening s) (lose_entry-quiet name s h) h
