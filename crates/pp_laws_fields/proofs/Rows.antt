-- What is done to rows and chunks keeps what is asked of rows.
use Rattle.std.proofs.Common.{◌≡◌, ℕ, nat_lt, Bool, true, false, not, List, find, Option, Some, None, refl}
use Rattle.pp_fresh.specs.declared.aging.Times.{Times}
use Rattle.pp_text.specs.Fields.{Field}
use Rattle.pp_valid.specs.declared.version.Version.{Version}
use Rattle.pp_law.specs.Chunks.{is_chunk, use_chunk, drop_chunk, note_use}
use Rattle.pp_law.specs.Lists.{Bytes, has_text}
use Rattle.pp_law.specs.State.{State, Entry, Instance}
use Rattle.pp_law.specs.Table.{is_entry_of, is_instance, is_kept_row_of, is_row_of, is_left_over, row, kept_row, row_on_disk, rows, idle_row, on_instance, forget, swept, clear, mark_row, forget_row, with_room, add_row, make_row, enter}
use Rattle.pp_laws.specs.Runs.{IsIn}
use Rattle.pp_laws.proofs.Lists.{in_find}
use Rattle.pp_laws_fields.proofs.Cases.{each_of, each_so, when}
use Rattle.pp_laws_fields.proofs.View.{Holds, Like, OfRow, entries_changed, facts_of, holds, own_changed, own_filtered, own_moved, own_pushed, row_pushed, rows_changed, rows_filtered, rows_moved, with_rows}

-- an entry that may come into memory is there
kept_there : (s : State) (key : Bytes) (e : Entry) → row_on_disk s key ≡ Some e → IsIn e s.entries
kept_there s key e is = by (has_text key s.displaced) is
  where
    by : (t : Bool) → (elim t as (λ c. Option Entry) [ true ↦ None | false ↦ kept_row s key ]) ≡ Some e → IsIn e s.entries
    by true found = absurd (cc found)
    by false found = (in_find (is_kept_row_of key) e s.entries found).0

-- ---- instances

pub on_instance-keeps : {R : Like} (id : ℕ) (f : Instance → Instance) (s : State) → ((x : Instance) → (f x).id ≡ x.id) → ((x : Instance) → IsIn x s.instances → is_instance id x ≡ true → OfRow R x → OfRow R (f x)) → Holds R s → Holds R (on_instance id f s)
unfolding on_instance
on_instance-keeps id f s same_id kept h = holds (with_rows _ _ (own_changed (is_instance id) f s.instances s.next_instance same_id (facts_of h).own) (rows_changed _ (is_instance id) f s.instances kept (facts_of h).rows) (facts_of h))

pub forget-keeps : {R : Like} (id : ℕ) (s : State) → Holds R s → Holds R (forget id s)
unfolding forget
forget-keeps id s h = holds (with_rows _ _ (own_filtered (λ x. not (is_instance id x)) s.instances s.next_instance (facts_of h).own) (rows_filtered _ (λ x. not (is_instance id x)) s.instances (facts_of h).rows) (facts_of h))

pub swept-keeps : {R : Like} (s : State) → Holds R s → Holds R (swept s)
unfolding swept
swept-keeps s h = holds (with_rows _ _ (own_filtered (λ x. not (is_left_over s x)) s.instances s.next_instance (facts_of h).own) (rows_filtered _ (λ x. not (is_left_over s x)) s.instances (facts_of h).rows) (facts_of h))

pub clear-keeps : {R : Like} (key : Bytes) (s : State) → Holds R s → Holds R (clear key s)
unfolding clear
clear-keeps key s h = swept-keeps _ (holds (record {
  own = own_changed (is_row_of key) (λ x. record x { is_retired = true }) s.instances s.next_instance (λ x. refl) (facts_of h).own;
  rows = rows_changed _ (is_row_of key) (λ x. record x { is_retired = true }) s.instances (λ x i hit has. has) (facts_of h).rows;
  kept = entries_changed _ (is_entry_of key) (λ e. record e { is_stale = true }) s.entries (λ e has. has) (facts_of h).kept;
  next = (facts_of h).next;
}))

pub mark_row-keeps : {R : Like} (id : ℕ) (s : State) → Holds R s → Holds R (mark_row id s)
unfolding mark_row
mark_row-keeps id s h = holds (with_rows _ _ (own_moved (is_instance id) s.instances s.next_instance (facts_of h).own) (rows_moved _ (is_instance id) s.instances (facts_of h).rows) (facts_of h))

forget_row-keeps : {R : Like} (x : Instance) (s : State) → Holds R s → Holds R (forget_row x s)
unfolding forget_row
forget_row-keeps x s h = holds (facts_of (forget-keeps x.id s h))

with_room-keeps : {R : Like} (s : State) → Holds R s → Holds R (with_room s)
unfolding with_room
with_room-keeps s h = when (nat_lt (rows s) 1024) h (each_of (idle_row s) h (λ x. forget_row-keeps x s h))

add_row-keeps : {R : Like} (key : Bytes) (version : Version) (fields : List Field) (times : Times) (is_new : Bool) (s : State) → R version fields times → Holds R s → Holds R (add_row key version fields times is_new s)
unfolding add_row
add_row-keeps key version fields times is_new s is h =
    holds (with_rows _ _ (own_pushed new s.instances s.next_instance refl (facts_of h).own) (row_pushed _ new s.instances is (facts_of h).rows) (facts_of h))
  where
    new : Instance
    new = record { id = s.next_instance; key = key; version = version; fields = fields; times = times; is_retired = false; is_new = is_new }

pub make_row-keeps : {R : Like} (key : Bytes) (version : Version) (fields : List Field) (times : Times) (s : State) → R version fields times → Holds R s → Holds R (make_row key version fields times s)
unfolding make_row
make_row-keeps key version fields times s is h = add_row-keeps key version fields times true _ is (with_room-keeps _ (clear-keeps key s h))

pub enter-keeps : {R : Like} (key : Bytes) (is_new : Bool) (s : State) → Holds R s → Holds R (enter key is_new s)
unfolding enter
enter-keeps key is_new s h =
    each_of (row s key) (each_so (row_on_disk s key) (λ none. h) (λ e found. add_row-keeps key e.version e.fields e.times is_new _ ((facts_of h).kept e (kept_there s key e found)) (with_room-keeps s h))) (λ x. h)

-- ---- chunks

pub use_chunk-keeps : {R : Like} (id i : ℕ) (s : State) → Holds R s → Holds R (use_chunk id i s)
unfolding use_chunk
use_chunk-keeps id i s h = each_of (find (is_chunk id i) s.chunks) h (λ c. holds (facts_of h))

pub drop_chunk-keeps : {R : Like} (id i : ℕ) (s : State) → Holds R s → Holds R (drop_chunk id i s)
unfolding drop_chunk
drop_chunk-keeps id i s h = holds (facts_of h)

pub note_use-keeps : {R : Like} (s : State) → Holds R s → Holds R (note_use s)
unfolding note_use
note_use-keeps s h = holds (facts_of h)
