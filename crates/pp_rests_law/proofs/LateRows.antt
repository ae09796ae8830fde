-- What is done to rows and chunks keeps which rows stand late.
use Rattle.std.proofs.Common.{◌≡◌, ℕ, nat_lt, Bool, true, false, not, List, find, refl}
use Rattle.pp_fresh.specs.declared.aging.Times.{Times}
use Rattle.pp_text.specs.Fields.{Field}
use Rattle.pp_valid.specs.declared.version.Version.{Version}
use Rattle.pp_law.specs.Chunks.{is_chunk, use_chunk, drop_chunk, note_use}
use Rattle.pp_law.specs.Lists.{Bytes}
use Rattle.pp_law.specs.State.{State, Instance}
use Rattle.pp_law.specs.Table.{is_instance, is_row_of, is_left_over, row, row_on_disk, rows, idle_row, on_instance, forget, swept, clear, mark_row, forget_row, with_room, add_row, make_row, enter}
use Rattle.pp_laws.specs.Runs.{IsIn}
use Rattle.pp_laws_fields.proofs.View.{own_changed, own_filtered, own_moved, own_pushed}
use Rattle.pp_rests_law.proofs.LateCases.{each_of, when}
use Rattle.pp_rests_law.proofs.LateView.{Holds, KeepsRow, Keys, MayCome, facts_of, holds, late_changed, late_filtered, late_moved, late_pushed}

-- ---- instances

pub on_instance-keeps : {late : Keys} (id : ℕ) (f : Instance → Instance) (s : State) → KeepsRow f → Holds late s → Holds late (on_instance id f s)
unfolding on_instance
on_instance-keeps {late} id f s keeps h = holds (record { own = own_changed (is_instance id) f s.instances s.next_instance keeps.id (facts_of h).own; late = late_changed late.keys (is_instance id) f s.instances keeps (facts_of h).late; amid = (facts_of h).amid; done = (facts_of h).done })

pub forget-keeps : {late : Keys} (id : ℕ) (s : State) → Holds late s → Holds late (forget id s)
unfolding forget
forget-keeps {late} id s h = holds (record { own = own_filtered (λ x. not (is_instance id x)) s.instances s.next_instance (facts_of h).own; late = late_filtered late.keys (λ x. not (is_instance id x)) s.instances (facts_of h).late; amid = (facts_of h).amid; done = (facts_of h).done })

pub swept-keeps : {late : Keys} (s : State) → Holds late s → Holds late (swept s)
unfolding swept
swept-keeps {late} s h = holds (record { own = own_filtered (λ x. not (is_left_over s x)) s.instances s.next_instance (facts_of h).own; late = late_filtered late.keys (λ x. not (is_left_over s x)) s.instances (facts_of h).late; amid = (facts_of h).amid; done = (facts_of h).done })

retired_keeps : KeepsRow (λ (x : Instance). record x { is_retired = true })
retired_keeps = record { id = λ x. refl; key = λ x. refl; is_new = λ x. refl; row = λ x is. absurd (cc is) }

pub clear-keeps : {late : Keys} (key : Bytes) (s : State) → Holds late s → Holds late (clear key s)
unfolding clear
clear-keeps {late} key s h = swept-keeps _ (holds (record {
  own = own_changed (is_row_of key) (λ x. record x { is_retired = true }) s.instances s.next_instance (λ x. refl) (facts_of h).own;
  late = late_changed late.keys (is_row_of key) (λ x. record x { is_retired = true }) s.instances retired_keeps (facts_of h).late;
  amid = (facts_of h).amid;
  done = (facts_of h).done;
}))

pub mark_row-keeps : {late : Keys} (id : ℕ) (key : Bytes) (s : State) → ((x : Instance) → IsIn x s.instances → is_instance id x ≡ true → x.key ≡ key) → MayCome late false key → Holds late s → Holds late (mark_row id s)
unfolding mark_row
mark_row-keeps {late} id key s same may h = holds (record { own = own_moved (is_instance id) s.instances s.next_instance (facts_of h).own; late = late_moved late.keys (is_instance id) key s.instances same may (facts_of h).late; amid = (facts_of h).amid; done = (facts_of h).done })

forget_row-keeps : {late : Keys} (x : Instance) (s : State) → Holds late s → Holds late (forget_row x s)
unfolding forget_row
forget_row-keeps x s h = holds (facts_of (forget-keeps x.id s h))

with_room-keeps : {late : Keys} (s : State) → Holds late s → Holds late (with_room s)
unfolding with_room
with_room-keeps s h = when (nat_lt (rows s) 1024) h (each_of (idle_row s) h (λ x. forget_row-keeps x s h))

add_row-keeps : {late : Keys} (key : Bytes) (version : Version) (fields : List Field) (times : Times) (is_new : Bool) (s : State) → MayCome late is_new key → Holds late s → Holds late (add_row key version fields times is_new s)
unfolding add_row
add_row-keeps {late} key version fields times is_new s may h = holds (record { own = own_pushed new s.instances s.next_instance refl (facts_of h).own; late = late_pushed late.keys new s.instances may (facts_of h).late; amid = (facts_of h).amid; done = (facts_of h).done })
  where
    new : Instance
    new = record { id = s.next_instance; key = key; version = version; fields = fields; times = times; is_retired = false; is_new = is_new }

pub make_row-keeps : {late : Keys} (key : Bytes) (version : Version) (fields : List Field) (times : Times) (s : State) → MayCome late true key → Holds late s → Holds late (make_row key version fields times s)
unfolding make_row
make_row-keeps key version fields times s may h = add_row-keeps key version fields times true _ may (with_room-keeps _ (clear-keeps key s h))

pub enter-keeps : {late : Keys} (key : Bytes) (is_new : Bool) (s : State) → MayCome late is_new key → Holds late s → Holds late (enter key is_new s)
unfolding enter
enter-keeps key is_new s may h = each_of (row s key) (each_of (row_on_disk s key) h (λ e. add_row-keeps key e.version e.fields e.times is_new _ may (with_room-keeps s h))) (λ x. h)

-- ---- chunks

pub use_chunk-keeps : {late : Keys} (id i : ℕ) (s : State) → Holds late s → Holds late (use_chunk id i s)
unfolding use_chunk
use_chunk-keeps id i s h = each_of (find (is_chunk id i) s.chunks) h (λ c. holds (facts_of h))

pub drop_chunk-keeps : {late : Keys} (id i : ℕ) (s : State) → Holds late s → Holds late (drop_chunk id i s)
unfolding drop_chunk
drop_chunk-keeps id i s h = holds (facts_of h)

pub note_use-keeps : {late : Keys} (s : State) → Holds late s → Holds late (note_use s)
unfolding note_use
note_use-keeps s h = holds (facts_of h)
