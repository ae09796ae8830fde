-- What is done to rows and chunks keeps what is kept by each change.
use Rattle.std.proofs.Common.{◌≡◌, refl, ℕ, nat_lt, Bool, true, false, not, ◌==◌, List, filter, find, Option, Some, None}
use Rattle.pp_fresh.specs.declared.aging.Times.{Times}
use Rattle.pp_text.specs.Fields.{Field}
use Rattle.pp_valid.specs.declared.version.Version.{Version}
use Rattle.pp_law.specs.Chunks.{is_chunk, use_chunk, drop_chunk}
use Rattle.pp_law.specs.Lists.{Bytes}
use Rattle.pp_law.specs.State.{State, Instance}
use Rattle.pp_law.specs.Table.{is_left_over, is_chunk_of_any, row_on_disk, row, rows, idle_row, on_instance, forget, swept, clear, mark_row, forget_row, with_room, add_row, make_row, enter}
use Rattle.pp_laws_pool.proofs.View.{View, Walk, Uses, Holds, holds, facts_of, view}
use Rattle.pp_laws_pool.proofs.WalkCases.{each_of, each_so, when}

pub on_instance-keeps : {P : View → Type 0} (w : Walk P) (id : ℕ) (f : Instance → Instance) (s : State) → Holds P s → Holds P (on_instance id f s)
unfolding on_instance
on_instance-keeps w id f s h = holds (facts_of h)

pub forget-keeps : {P : View → Type 0} (w : Walk P) (id : ℕ) (s : State) → Holds P s → Holds P (forget id s)
unfolding forget
forget-keeps w id s h = holds (w.chunks (λ c. not (c.instance == id)) (view s) (facts_of h))

pub swept-keeps : {P : View → Type 0} (w : Walk P) (s : State) → Holds P s → Holds P (swept s)
unfolding swept
swept-keeps w s h = holds (w.chunks (λ c. not (is_chunk_of_any (filter (is_left_over s) s.instances) c)) (view s) (facts_of h))

pub clear-keeps : {P : View → Type 0} (w : Walk P) (key : Bytes) (s : State) → Holds P s → Holds P (clear key s)
unfolding clear
clear-keeps w key s h = swept-keeps w _ (holds (facts_of h))

pub mark_row-keeps : {P : View → Type 0} (w : Walk P) (id : ℕ) (s : State) → Holds P s → Holds P (mark_row id s)
unfolding mark_row
mark_row-keeps w id s h = holds (facts_of h)

-- ---- room for one

pub forget_row-keeps : {P : View → Type 0} (w : Walk P) (x : Instance) (s : State) → Holds P s → Holds P (forget_row x s)
unfolding forget_row
forget_row-keeps w x s h = holds (facts_of (forget-keeps w x.id s h))

pub with_room-keeps : {P : View → Type 0} (w : Walk P) (s : State) → Holds P s → Holds P (with_room s)
unfolding with_room
with_room-keeps w s h = when (nat_lt (rows s) 1024) h (each_of (idle_row s) h (λ x. forget_row-keeps w x s h))

add_row-keeps : {P : View → Type 0} (w : Walk P) (key : Bytes) (version : Version) (fields : List Field) (times : Times) (is_new : Bool) (s : State) → Holds P s → Holds P (add_row key version fields times is_new s)
unfolding add_row
add_row-keeps w key version fields times is_new s h = holds (facts_of h)

pub make_row-keeps : {P : View → Type 0} (w : Walk P) (key : Bytes) (version : Version) (fields : List Field) (times : Times) (s : State) → Holds P s → Holds P (make_row key version fields times s)
unfolding make_row
make_row-keeps w key version fields times s h = add_row-keeps w key version fields times true _ (with_room-keeps w _ (clear-keeps w key s h))

pub enter-keeps : {P : View → Type 0} (w : Walk P) (key : Bytes) (is_new : Bool) (s : State) → Holds P s → Holds P (enter key is_new s)
unfolding enter
enter-keeps w key is_new s h = each_of (row s key) (each_of (row_on_disk s key) h (λ e. add_row-keeps w key e.version e.fields e.times is_new _ (with_room-keeps w s h))) (λ x. h)

-- ---- chunks

pub use_chunk-keeps : {P : View → Type 0} (u : Uses P) (id i : ℕ) (s : State) → Holds P s → Holds P (use_chunk id i s)
unfolding use_chunk
use_chunk-keeps u id i s h = each_so (find (is_chunk id i) s.chunks) (λ none. h) (λ c found. holds (u id i c (view s) found (facts_of h)))

pub drop_chunk-keeps : {P : View → Type 0} (w : Walk P) (id i : ℕ) (s : State) → Holds P s → Holds P (drop_chunk id i s)
unfolding drop_chunk
drop_chunk-keeps w id i s h = holds (w.chunks (λ c. not (is_chunk id i c)) (view s) (facts_of h))
