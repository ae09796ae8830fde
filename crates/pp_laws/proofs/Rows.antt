-- Rows and chunks: what is done to them keeps what is sound.
use Rattle.std.proofs.Common.{◌≡◌, refl, ℕ, ◌*◌, ◌<◌, nat_lt, Bool, true, false, not, ◌==◌, List, filter, find, bytes_eq, sym, subst, ◌∙◌}
use Rattle.pp_fresh.specs.declared.aging.Times.{Times}
use Rattle.pp_text.specs.Fields.{Field}
use Rattle.pp_valid.specs.declared.version.Version.{Version}
use Rattle.pp_law.specs.Chunks.{is_chunk, chunk_len, put_chunk, use_chunk, drop_chunk, note_use}
use Rattle.pp_law.specs.Lists.{Bytes}
use Rattle.pp_law.specs.State.{State, Instance, Chunk}
use Rattle.pp_law.specs.Table.{is_instance, is_row_of, is_left_over, is_chunk_of_any, row, row_on_disk, rows, idle_row, on_instance, forget, swept, clear, mark_row, forget_row, with_room, add_row, make_row, enter}
use Rattle.pp_laws.specs.Origin.{AllSent}
use Rattle.pp_laws.specs.Runs.{IsIn}
use Rattle.pp_laws.proofs.Cases.{each_of, each_so, when}
use Rattle.pp_laws.proofs.Finds.{HasNoRow, clear-no_row, no_row, with_room-no_row}
use Rattle.pp_laws.proofs.Joins.{HeldOf, put_chunk-given, put_chunk-held}
use Rattle.pp_laws.proofs.KeptRows.{SameInstance, chunks_filtered, instance_pushed, instances_changed, instances_moved, rows_filtered}
use Rattle.pp_laws.proofs.Lists.{in_find}
use Rattle.pp_laws.proofs.Sound.{FactsOf, Since, Sound, facts_of, sound}
use Rattle.pp_laws.proofs.Tests.{first_holds, same_bytes, same_number, second_holds}

-- ---- instances

pub on_instance-sound : {b : Since} (id : ℕ) (f : Instance → Instance) (s : State) → ((x : Instance) → SameInstance (f x) x) → Sound b s → Sound b (on_instance id f s)
unfolding on_instance
on_instance-sound {b} id f s kept h = sound (instances_changed b s (is_instance id) f kept (facts_of h))

pub forget-sound : {b : Since} (id : ℕ) (s : State) → Sound b s → Sound b (forget id s)
unfolding forget
forget-sound {b} id s h = sound (rows_filtered b s (λ x. not (is_instance id x)) (λ c. not (c.instance == id)) (facts_of h))

pub swept-sound : {b : Since} (s : State) → Sound b s → Sound b (swept s)
unfolding swept
swept-sound {b} s h = sound (rows_filtered b s (λ x. not (is_left_over s x)) (λ c. not (is_chunk_of_any (filter (is_left_over s) s.instances) c)) (facts_of h))

pub clear-sound : {b : Since} (key : Bytes) (s : State) → Sound b s → Sound b (clear key s)
unfolding clear
clear-sound {b} key s h = swept-sound _ (sound (instances_changed b s (is_row_of key) (λ x. record x { is_retired = true }) (λ x. record { id = refl; key = refl; version = refl; row = λ k is. absurd (cc is) }) (facts_of h)))

pub mark_row-sound : {b : Since} (id : ℕ) (s : State) → Sound b s → Sound b (mark_row id s)
unfolding mark_row
mark_row-sound {b} id s h = sound (instances_moved b s (is_instance id) (facts_of h))

pub forget_row-sound : {b : Since} (x : Instance) (s : State) → Sound b s → Sound b (forget_row x s)
unfolding forget_row
forget_row-sound x s h = sound (facts_of (forget-sound x.id s h))

pub with_room-sound : {b : Since} (s : State) → Sound b s → Sound b (with_room s)
unfolding with_room
with_room-sound s h = when (nat_lt (rows s) 1024) h (each_of (idle_row s) h (λ x. forget_row-sound x s h))

pub add_row-sound : {b : Since} (key : Bytes) (version : Version) (fields : List Field) (times : Times) (is_new : Bool) (s : State) → HasNoRow key s → Sound b s → Sound b (add_row key version fields times is_new s)
unfolding add_row
add_row-sound {b} key version fields times is_new s none h =
    sound (instance_pushed b s (record { id = s.next_instance; key = key; version = version; fields = fields; times = times; is_retired = false; is_new = is_new }) refl alone (facts_of h))
  where
    alone : (k : Bytes) (y : Instance) → IsIn y s.instances → is_row_of k y ≡ true → bytes_eq key k ≡ true → ⊥
    alone k y i is same = no_row key s none y i (subst (λ m. is_row_of m y ≡ true) (sym (same_bytes key k same)) is)

pub make_row-sound : {b : Since} (key : Bytes) (version : Version) (fields : List Field) (times : Times) (s : State) → Sound b s → Sound b (make_row key version fields times s)
unfolding make_row
make_row-sound key version fields times s h = add_row-sound key version fields times true _ (with_room-no_row key _ (clear-no_row key s)) (with_room-sound _ (clear-sound key s h))

pub enter-sound : {b : Since} (key : Bytes) (is_new : Bool) (s : State) → Sound b s → Sound b (enter key is_new s)
unfolding enter
enter-sound key is_new s h =
    each_so (row s key) (λ none. each_of (row_on_disk s key) h (λ e. add_row-sound key e.version e.fields e.times is_new _ (with_room-no_row key s none) (with_room-sound s h))) (λ x found. h)

-- ---- chunks

-- other chunks, of instances that were given their numbers, and whose bytes were sent
pub rechunked : (b : Since) (s : State) (chunks : List Chunk) → ((c : Chunk) → IsIn c chunks → c.instance < s.next_instance)
    → (b.counts_loads ≡ true → (x : Instance) → IsIn x s.instances → HeldOf s.sent x.key x.version x.id chunks) → FactsOf b s → FactsOf b (record s { chunks = chunks })
rechunked b s chunks given held h = record {
  grew = h.grew;
  lines = h.lines;
  asks = h.asks;
  rows = record { differ = h.rows.differ; given = h.rows.given; own_keys = h.rows.own_keys; chunks_given = given };
  placed = h.placed;
  brings = h.brings;
  keyed = h.keyed;
  callers = h.callers;
  held = held;
}

-- a chunk has these bytes now
pub chunk_put : (b : Since) (s : State) (id i : ℕ) (bytes : Bytes) → id < s.next_instance
    → (b.counts_loads ≡ true → (x : Instance) → IsIn x s.instances → id ≡ x.id → AllSent s.sent x.key x.version (i * chunk_len) bytes) → FactsOf b s → FactsOf b (record s { chunks = put_chunk id i bytes s.chunks })
chunk_put b s id i bytes lt sent h =
    rechunked b s (put_chunk id i bytes s.chunks) (put_chunk-given s.next_instance id i bytes s.chunks lt h.rows.chunks_given)
    (λ counts x there. put_chunk-held s.sent x.key x.version x.id id i bytes s.chunks (sent counts x there) (h.held counts x there)) h

pub use_chunk-sound : {b : Since} (id i : ℕ) (s : State) → Sound b s → Sound b (use_chunk id i s)
unfolding use_chunk
use_chunk-sound {b} id i s h = each_so (find (is_chunk id i) s.chunks) (λ none. h) (λ c found. by c (in_find (is_chunk id i) c s.chunks found))
  where
    by : (c : Chunk) → IsIn c s.chunks × (is_chunk id i c ≡ true) → Sound b (record s { chunks = put_chunk id i c.bytes s.chunks })
    by c there = sound (chunk_put b s id i c.bytes (subst (λ n. n < s.next_instance) instance ((facts_of h).rows.chunks_given c there.0)) sent (facts_of h))
      where
        instance : c.instance ≡ id
        instance = same_number c.instance id (first_holds (c.instance == id) (c.index == i) there.1)

        index : c.index ≡ i
        index = same_number c.index i (second_holds (c.instance == id) (c.index == i) there.1)

        sent : b.counts_loads ≡ true → (x : Instance) → IsIn x s.instances → id ≡ x.id → AllSent s.sent x.key x.version (i * chunk_len) c.bytes
        sent counts x x_there is = subst (λ n. AllSent s.sent x.key x.version (n * chunk_len) c.bytes) index ((facts_of h).held counts x x_there c there.0 (instance ∙ is))

pub drop_chunk-sound : {b : Since} (id i : ℕ) (s : State) → Sound b s → Sound b (drop_chunk id i s)
unfolding drop_chunk
drop_chunk-sound {b} id i s h = sound (chunks_filtered b s (λ d. not (is_chunk id i d)) (facts_of h))

pub note_use-sound : {b : Since} (s : State) → Sound b s → Sound b (note_use s)
unfolding note_use
note_use-sound s h = sound (facts_of h)
