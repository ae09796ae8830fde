-- What is done to rows and chunks keeps what is still to come.
use Rattle.std.proofs.Common.{ℕ, nat_lt, Bool, true, List, find}
use Rattle.pp_fresh.specs.declared.aging.Times.{Times}
use Rattle.pp_text.specs.Fields.{Field}
use Rattle.pp_valid.specs.declared.version.Version.{Version}
use Rattle.pp_law.specs.Chunks.{is_chunk, use_chunk, drop_chunk, note_use}
use Rattle.pp_law.specs.Lists.{Bytes}
use Rattle.pp_law.specs.State.{State, Instance}
use Rattle.pp_law.specs.Table.{row, row_on_disk, rows, idle_row, on_instance, forget, swept, clear, mark_row, forget_row, with_room, add_row, make_row, enter}
use Rattle.pp_laws_brought.proofs.Cases.{each_of, when}
use Rattle.pp_laws_brought.proofs.View.{Apart, Holds, facts_of, holds}

-- ---- instances

pub on_instance-keeps : {but : Apart} (id : ℕ) (f : Instance → Instance) (s : State) → Holds but s → Holds but (on_instance id f s)
unfolding on_instance
on_instance-keeps id f s h = holds (facts_of h)

pub forget-keeps : {but : Apart} (id : ℕ) (s : State) → Holds but s → Holds but (forget id s)
unfolding forget
forget-keeps id s h = holds (facts_of h)

pub swept-keeps : {but : Apart} (s : State) → Holds but s → Holds but (swept s)
unfolding swept
swept-keeps s h = holds (facts_of h)

pub clear-keeps : {but : Apart} (key : Bytes) (s : State) → Holds but s → Holds but (clear key s)
unfolding clear
clear-keeps key s h = swept-keeps _ (holds (facts_of h))

pub mark_row-keeps : {but : Apart} (id : ℕ) (s : State) → Holds but s → Holds but (mark_row id s)
unfolding mark_row
mark_row-keeps id s h = holds (facts_of h)

forget_row-keeps : {but : Apart} (x : Instance) (s : State) → Holds but s → Holds but (forget_row x s)
unfolding forget_row
forget_row-keeps x s h = holds (facts_of (forget-keeps x.id s h))

with_room-keeps : {but : Apart} (s : State) → Holds but s → Holds but (with_room s)
unfolding with_room
with_room-keeps s h = when (nat_lt (rows s) 1024) h (each_of (idle_row s) h (λ x. forget_row-keeps x s h))

add_row-keeps : {but : Apart} (key : Bytes) (version : Version) (fields : List Field) (times : Times) (is_new : Bool) (s : State) → Holds but s → Holds but (add_row key version fields times is_new s)
unfolding add_row
add_row-keeps key version fields times is_new s h = holds (facts_of h)

pub make_row-keeps : {but : Apart} (key : Bytes) (version : Version) (fields : List Field) (times : Times) (s : State) → Holds but s → Holds but (make_row key version fields times s)
unfolding make_row
make_row-keeps key version fields times s h = add_row-keeps key version fields times true _ (with_room-keeps _ (clear-keeps key s h))

pub enter-keeps : {but : Apart} (key : Bytes) (is_new : Bool) (s : State) → Holds but s → Holds but (enter key is_new s)
unfolding enter
enter-keeps key is_new s h =
    each_of (row s key) (each_of (row_on_disk s key) h (λ e. add_row-keeps key e.version e.fields e.times is_new _ (with_room-keeps s h))) (λ x. h)

-- ---- chunks

pub use_chunk-keeps : {but : Apart} (id i : ℕ) (s : State) → Holds but s → Holds but (use_chunk id i s)
unfolding use_chunk
use_chunk-keeps id i s h = each_of (find (is_chunk id i) s.chunks) h (λ c. holds (facts_of h))

pub drop_chunk-keeps : {but : Apart} (id i : ℕ) (s : State) → Holds but s → Holds but (drop_chunk id i s)
unfolding drop_chunk
drop_chunk-keeps id i s h = holds (facts_of h)

pub note_use-keeps : {but : Apart} (s : State) → Holds but s → Holds but (note_use s)
unfolding note_use
note_use-keeps s h = holds (facts_of h)
