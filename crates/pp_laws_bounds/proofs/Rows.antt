-- What is done to rows and chunks keeps the bounds of what is connected.
use Rattle.std.proofs.Common.{ℕ, nat_lt, Bool, true, List, find}
use Rattle.pp_fresh.specs.declared.aging.Times.{Times}
use Rattle.pp_text.specs.Fields.{Field}
use Rattle.pp_valid.specs.declared.version.Version.{Version}
use Rattle.pp_law.specs.Chunks.{is_chunk, use_chunk, drop_chunk, note_use}
use Rattle.pp_law.specs.Lists.{Bytes}
use Rattle.pp_law.specs.State.{State, Instance}
use Rattle.pp_law.specs.Table.{row_on_disk, row, rows, idle_row, on_instance, forget, mark_row, forget_row, with_room, add_row, make_row, enter}
use Rattle.pp_laws_bounds.proofs.Cases.{each_of, when}
use Rattle.pp_laws_bounds.proofs.Exchanges.{clear-kept}
use Rattle.pp_laws_bounds.proofs.Kept.{Kept, facts_of, kept}

pub on_instance-kept : {but : List ℕ} (id : ℕ) (f : Instance → Instance) (s : State) → Kept but s → Kept but (on_instance id f s)
unfolding on_instance
on_instance-kept id f s h = kept (facts_of h)

pub forget-kept : {but : List ℕ} (id : ℕ) (s : State) → Kept but s → Kept but (forget id s)
unfolding forget
forget-kept id s h = kept (facts_of h)

pub mark_row-kept : {but : List ℕ} (id : ℕ) (s : State) → Kept but s → Kept but (mark_row id s)
unfolding mark_row
mark_row-kept id s h = kept (facts_of h)

forget_row-kept : {but : List ℕ} (x : Instance) (s : State) → Kept but s → Kept but (forget_row x s)
unfolding forget_row
forget_row-kept x s h = kept (facts_of (forget-kept x.id s h))

with_room-kept : {but : List ℕ} (s : State) → Kept but s → Kept but (with_room s)
unfolding with_room
with_room-kept s h = when (nat_lt (rows s) 1024) h (each_of (idle_row s) h (λ x. forget_row-kept x s h))

add_row-kept : {but : List ℕ} (key : Bytes) (version : Version) (fields : List Field) (times : Times) (is_new : Bool) (s : State) → Kept but s → Kept but (add_row key version fields times is_new s)
unfolding add_row
add_row-kept key version fields times is_new s h = kept (facts_of h)

pub make_row-kept : {but : List ℕ} (key : Bytes) (version : Version) (fields : List Field) (times : Times) (s : State) → Kept but s → Kept but (make_row key version fields times s)
unfolding make_row
make_row-kept key version fields times s h = add_row-kept key version fields times true _ (with_room-kept _ (clear-kept key s h))

pub enter-kept : {but : List ℕ} (key : Bytes) (is_new : Bool) (s : State) → Kept but s → Kept but (enter key is_new s)
unfolding enter
enter-kept key is_new s h = each_of (row s key) (each_of (row_on_disk s key) h (λ e. add_row-kept key e.version e.fields e.times is_new _ (with_room-kept s h))) (λ x. h)

pub use_chunk-kept : {but : List ℕ} (id i : ℕ) (s : State) → Kept but s → Kept but (use_chunk id i s)
unfolding use_chunk
use_chunk-kept id i s h = each_of (find (is_chunk id i) s.chunks) h (λ c. kept (facts_of h))

pub drop_chunk-kept : {but : List ℕ} (id i : ℕ) (s : State) → Kept but s → Kept but (drop_chunk id i s)
unfolding drop_chunk
drop_chunk-kept id i s h = kept (facts_of h)

pub note_use-kept : {but : List ℕ} (s : State) → Kept but s → Kept but (note_use s)
unfolding note_use
note_use-kept s h = kept (facts_of h)
