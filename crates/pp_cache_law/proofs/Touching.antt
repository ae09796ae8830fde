-- Chunks are used, and leave memory, as the law has it.
use Rattle.std.proofs.Common.{◌≡◌, ◌<◌, ◌≤◌, ◌+◌, ◌-◌, ◌/◌, min, refl, sym, subst, ap, ◌∙◌, ℕ, zero, suc, Bool, true, false, not, ◌==◌, ◌&&◌, cond, find, List, [], ◌∷◌, filter, Option, Some, None, arith}
use Rattle.std.specs.Prelude.{count_by}
use Rattle.pp_cache.specs.Memory.{Memory}
use Rattle.pp_cache.specs.Uses.{used_at, used_run}
use Rattle.pp_holes.specs.Cells.{chunks_of}
use Rattle.pp_holes.specs.Places.{Chunk, bytes_at, first_bytes, is_at, is_elsewhere, touched, without}
use Rattle.pp_law.specs.Chunks.{drop_chunk, is_chunk, put_chunk, use_chunk}
use Rattle.pp_law.specs.Lists.{Bytes, without as law_without}
use Rattle.pp_law.specs.Replies.{use_chunks, use_from}
use Rattle.pp_law.specs.State.{State, Instance as Known, Chunk as Front}
use Rattle.pp_objects.specs.Instances.{Instance}
use Rattle.pp_text.specs.Bytes.{is_empty}
use Rattle.pp_cache_law.specs.Pairs.{AreAll, AreBoth}
use Rattle.pp_cache_law.specs.Reads.{IsSamePlace}
use Rattle.pp_cache_law.specs.Tables.{NoneAhead, ShowsCache, ShowsChunk, ShowsInstance, ShowsTable, number_in}
use Rattle.pp_cache_law.specs.Uses.{EvictionsAreTheLaws, TouchesAreTheLaws, UsesAreTheLaws}
use Rattle.pp_cache_law.proofs.Faces.{followed-faced, table-faced}
use Rattle.pp_cache_law.proofs.Finds.{none_kept, one_kept}
use Rattle.pp_cache_law.proofs.Numbers.{chunks_alike, is_same, number_of_there}
use Rattle.pp_cache_law.proofs.PairLemmas.{also, count_joined, count_kept, count_parts, found, joined, kept}

-- ---- where the chunks alone change

chunk_moved : (number : ℕ → ℕ) (m : Memory) (cs : List Chunk) (c : Chunk) (d : Front) → ShowsChunk number m c d → ShowsChunk number (record m { chunks = cs }) c d
chunk_moved number m cs c d one = record { owner = one.owner; index = one.index; bytes = one.bytes; some = one.some }

instance_stays : (number : ℕ → ℕ) (m : Memory) (s : State) (cs : List Chunk) (ds : List Front) (i : Instance) (x : Known) → ShowsInstance number m s i x
    → ShowsInstance number (record m { chunks = cs }) (record s { chunks = ds }) i x
instance_stays number m s cs ds i x one = record {
  there = one.there;
  id = one.id;
  key = one.key;
  version = one.version;
  fields = one.fields;
  times = one.times;
  retired = one.retired;
  followers = one.followers;
  extent = one.extent;
  given = one.given;
  made = one.made;
}

pub with_chunks : (number : ℕ → ℕ) (m : Memory) (s : State) (cs : List Chunk) (ds : List Front) → ShowsTable number m s → AreAll (ShowsChunk number m) cs ds → ((at : ℕ × ℕ) → count_by (is_at at) cs ≤ 1)
    → ShowsTable number (record m { chunks = cs }) (record s { chunks = ds })
with_chunks number m s cs ds shows all once = record {
  instances = also (ShowsInstance number m s) (ShowsInstance number (record m { chunks = cs }) (record s { chunks = ds })) m.instances s.instances (instance_stays number m s cs ds) shows.instances;
  chunks = also (ShowsChunk number m) (ShowsChunk number (record m { chunks = cs })) cs ds (chunk_moved number m cs) all;
  alone = shows.alone;
  apart = shows.apart;
  rows = shows.rows;
  once = once;
  unkept = shows.unkept;
}

-- ---- one is used

-- one of that place
record IsOf (number : ℕ → ℕ) (m : Memory) (at : ℕ × ℕ) (c : Chunk) (d : Front) : Type 0 where
  place : is_at at c ≡ true
  shows : ShowsChunk number m c d

of_place : (number : ℕ → ℕ) (m : Memory) (s : State) (slot n index : ℕ) → ShowsTable number m s → number_in number slot m.instances ≡ Some n
    → AreBoth (IsOf number m (slot, index)) (find (is_at (slot, index)) m.chunks) (find (is_chunk n index) s.chunks)
of_place number m s slot n index shows at =
    found (ShowsChunk number m) (IsOf number m (slot, index)) (is_at (slot, index)) (is_chunk n index) m.chunks s.chunks
    (λ c d one. chunks_alike number m slot n index c d shows.apart at one) (λ c d one is. record { place = is; shows = one }) shows.chunks

first_of : (a b : Bool) → (a && b) ≡ true → a ≡ true
first_of true b e = refl
first_of false b e = e

second_of : (a b : Bool) → (a && b) ≡ true → b ≡ true
second_of true b e = e
second_of false b e = absurd cc

elsewhere_alike : (number : ℕ → ℕ) (m : Memory) (s : State) (slot n index : ℕ) → ShowsTable number m s → number_in number slot m.instances ≡ Some n
    → AreAll (ShowsChunk number m) (filter (is_elsewhere (slot, index)) m.chunks) (law_without (is_chunk n index) s.chunks)
elsewhere_alike number m s slot n index shows at =
    kept (ShowsChunk number m) (ShowsChunk number m) (is_elsewhere (slot, index)) (λ d. not (is_chunk n index d)) m.chunks s.chunks
    (λ c d one. ap (λ (b : Bool). not b) (chunks_alike number m slot n index c d shows.apart at one)) (λ c d one is. one) shows.chunks

-- it is as the law has it, behind it
same_chunk : (number : ℕ → ℕ) (m : Memory) (slot n index : ℕ) (c : Chunk) (d : Front) → number_in number slot m.instances ≡ Some n → is_at (slot, index) c ≡ true → ShowsChunk number m c d
    → ShowsChunk number m c (record { instance = n; index = index; bytes = d.bytes })
same_chunk number m slot n index c d at place one = record {
  owner = ap (λ (k : ℕ). number_in number k m.instances) (is_same c.owner slot (first_of (c.owner == slot) (c.index == index) place)) ∙ at;
  index = is_same c.index index (second_of (c.owner == slot) (c.index == index) place);
  bytes = one.bytes;
  some = one.some;
}

pub touched_once : (at : ℕ × ℕ) (cs : List Chunk) → ((other : ℕ × ℕ) → count_by (is_at other) cs ≤ 1) → (other : ℕ × ℕ) → count_by (is_at other) (touched at cs) ≤ 1
touched_once at cs once other =
    let parts = count_joined (is_at other) (filter (is_elsewhere at) cs) (filter (is_at at) cs) in
    omega (arith, parts, count_parts (is_at other) (is_at at) cs, once other)

pub used_alike : (number : ℕ → ℕ) (m : Memory) (s : State) (slot n index : ℕ) → ShowsTable number m s → number_in number slot m.instances ≡ Some n
    → ShowsTable number (record m { chunks = used_at (slot, index) m.chunks }) (use_chunk n index s)
unfolding used_at use_chunk
used_alike number m s slot n index shows at =
    by (find (is_at (slot, index)) m.chunks) (find (is_chunk n index) s.chunks) refl refl (of_place number m s slot n index shows at)
  where
    by : (u : Option Chunk) (v : Option Front) → find (is_at (slot, index)) m.chunks ≡ u → find (is_chunk n index) s.chunks ≡ v → AreBoth (IsOf number m (slot, index)) u v
        → ShowsTable number (record m { chunks = cond (is_empty (bytes_at (slot, index) m.chunks)) m.chunks (touched (slot, index) m.chunks) })
        (elim v [ None ↦ s | Some d ↦ record s { chunks = put_chunk n index d.bytes s.chunks } ])
    by None None e f both = subst (λ (bytes : Bytes). ShowsTable number (record m { chunks = cond (is_empty bytes) m.chunks (touched (slot, index) m.chunks) }) s)
        (sym (ap (λ (cs : List Chunk). first_bytes cs) (none_kept (is_at (slot, index)) m.chunks e))) shows
    by None (Some d) e f both = absurd both
    by (Some c) None e f both = absurd both
    by (Some c) (Some d) e f both =
        let alone : filter (is_at (slot, index)) m.chunks ≡ c ∷ [] = one_kept (is_at (slot, index)) m.chunks c (shows.once (slot, index)) e in
        let there : is_empty (bytes_at (slot, index) m.chunks) ≡ false = ap (λ (cs : List Chunk). is_empty (first_bytes cs)) alone ∙ both.shows.some in
        subst (λ (b : Bool). ShowsTable number (record m { chunks = cond b m.chunks (touched (slot, index) m.chunks) }) (record s { chunks = put_chunk n index d.bytes s.chunks }))
        (sym there)
        (with_chunks number m s (touched (slot, index) m.chunks) (put_chunk n index d.bytes s.chunks) shows
        (joined (ShowsChunk number m) (filter (is_elsewhere (slot, index)) m.chunks) (filter (is_at (slot, index)) m.chunks) (law_without (is_chunk n index) s.chunks)
        (record { instance = n; index = index; bytes = d.bytes } ∷ [])
        (elsewhere_alike number m s slot n index shows at)
        (subst (λ (cs : List Chunk). AreAll (ShowsChunk number m) cs (record { instance = n; index = index; bytes = d.bytes } ∷ [])) (sym alone)
        (same_chunk number m slot n index c d at both.place both.shows, tt)))
        (touched_once (slot, index) m.chunks shows.once))

-- ---- a run of them

run_alike : (number : ℕ → ℕ) (k : ℕ) (m : Memory) (s : State) (slot n index : ℕ) → ShowsTable number m s → number_in number slot m.instances ≡ Some n
    → ShowsTable number (record m { chunks = used_run k slot index m.chunks }) (use_chunks k n index s)
unfolding used_run use_chunks
run_alike number zero m s slot n index shows at = shows
run_alike number (suc k) m s slot n index shows at =
    run_alike number k (record m { chunks = used_at (slot, index) m.chunks }) (use_chunk n index s) slot n (index + 1) (used_alike number m s slot n index shows at) at

one_ahead : (n index : ℕ) (s : State) → NoneAhead s → NoneAhead (use_chunk n index s)
unfolding use_chunk
one_ahead n index s ahead = by (find (is_chunk n index) s.chunks)
  where
    by : (v : Option Front) → NoneAhead (elim v [ None ↦ s | Some d ↦ record s { chunks = put_chunk n index d.bytes s.chunks } ])
    by None = ahead
    by (Some d) = ahead

run_ahead : (k n index : ℕ) (s : State) → NoneAhead s → NoneAhead (use_chunks k n index s)
unfolding use_chunks
run_ahead zero n index s ahead = ahead
run_ahead (suc k) n index s ahead = run_ahead k n (index + 1) (use_chunk n index s) (one_ahead n index s ahead)

pub uses_of : UsesAreTheLaws
uses_of number m s shows id n index there = record {
  table = run_alike number n m s id.slot (number id.life) index shows.table (number_of_there number id m.instances there);
  followed = shows.followed;
  ahead = run_ahead n (number id.life) index s shows.ahead;
}

same_count : (at n : ℕ) → 0 < n → at + n ≤ 1073741824 → (at + n - 1) / 4096 + 1 - at / 4096 ≡ chunks_of (min (at + n) 1073741824) - at / 4096
same_count at n some few = omega (arith, some, few)

pub touches_of : TouchesAreTheLaws
unfolding use_from
touches_of number m s shows id n x there is some few =
    subst (λ (k : ℕ). ShowsCache number (record m { chunks = used_run (chunks_of (min (x.at + n) 1073741824) - x.at / 4096) id.slot (x.at / 4096) m.chunks }) (use_chunks k x.source.id (x.at / 4096) s))
    (sym (same_count x.at n some few))
    (subst (λ (j : ℕ). ShowsCache number (record m { chunks = used_run (chunks_of (min (x.at + n) 1073741824) - x.at / 4096) id.slot (x.at / 4096) m.chunks })
    (use_chunks (chunks_of (min (x.at + n) 1073741824) - x.at / 4096) j (x.at / 4096) s))
    is (uses_of number m s shows id (chunks_of (min (x.at + n) 1073741824) - x.at / 4096) (x.at / 4096) there))

-- ---- one is out

evicts_at : (number : ℕ → ℕ) (m : Memory) (s : State) (at other : ℕ × ℕ) → ShowsTable number m s → IsSamePlace number m at other
    → ShowsTable number (record m { chunks = without at m.chunks }) (record s { chunks = law_without (is_chunk other.0 other.1) s.chunks })
evicts_at number m s at other shows same =
    with_chunks number m s (without at m.chunks) (law_without (is_chunk other.0 other.1) s.chunks) shows
    (kept (ShowsChunk number m) (ShowsChunk number m) (is_elsewhere at) (λ d. not (is_chunk other.0 other.1 d)) m.chunks s.chunks alike (λ c d one is. one) shows.chunks)
    (λ place. omega (arith, count_kept (is_at place) (is_elsewhere at) m.chunks, shows.once place))
  where
    alike : (c : Chunk) (d : Front) → ShowsChunk number m c d → is_elsewhere at c ≡ not (is_chunk other.0 other.1 d)
    alike c d one =
        ap (λ (index : ℕ). not ((c.owner == at.0) && (c.index == index))) same.1
        ∙ ap (λ (b : Bool). not b) (chunks_alike number m at.0 other.0 other.1 c d shows.apart same.0 one)

pub evictions_of : EvictionsAreTheLaws
unfolding drop_chunk
evictions_of number m s shows is at other same place = record {
  table = table-faced number (record m { chunks = without at m.chunks }) (record s { chunks = law_without (is_chunk other.0 other.1) s.chunks }) is same (evicts_at number m s at other shows.table place);
  followed = followed-faced is m.instances same shows.followed;
  ahead = shows.ahead;
}
