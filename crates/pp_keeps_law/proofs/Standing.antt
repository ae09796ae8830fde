-- How a turn stands behind a step of its keeping.
use Rattle.std.proofs.Common.{◌≡◌, ◌<◌, ◌≤◌, refl, sym, subst, ap, ◌∙◌, inr, ℕ, zero, suc, true, false, not, find, List, [], ◌∷◌, length, Option, Some, None, arith}
use Rattle.std.specs.Prelude.{All, bytes_eq, count_by, option_map, slice_set}
use Rattle.pp_cache.specs.Bounds.{IsBounded}
use Rattle.pp_cache.specs.Memory.{Memory}
use Rattle.pp_cache.specs.OnDisk.{kept_to}
use Rattle.pp_cache.specs.declared.extents.Extent.{Extent}
use Rattle.pp_cache_law.proofs.Alike.{instances_of, rows_of}
use Rattle.pp_cache_law.proofs.Framing.{frames_of}
use Rattle.pp_cache_law.proofs.Keeping.{losses_of, removals_of}
use Rattle.pp_cache_law.proofs.Numbers.{some_is}
use Rattle.pp_cache_law.specs.Frames.{IsSameMemory, IsSameTable}
use Rattle.pp_cache_law.specs.Notes.{IsRowThere}
use Rattle.pp_cache_law.specs.Outdated.{AreNoted}
use Rattle.pp_cache_law.specs.Pairs.{AreBoth}
use Rattle.pp_cache_law.specs.Reads.{IsFound}
use Rattle.pp_cache_law.specs.Tables.{ShowsCache, ShowsInstance}
use Rattle.pp_keeping.specs.Kept.{unkept, with_none_kept}
use Rattle.pp_law.specs.Lists.{Bytes}
use Rattle.pp_law.specs.State.{State, Entry, Instance as Known}
use Rattle.pp_law.specs.Store.{note_gone, run_len}
use Rattle.pp_law.specs.Table.{follows, is_kept_row_of, row}
use Rattle.pp_laws.proofs.Tests.{first_holds, number_same, second_holds}
use Rattle.pp_laws.specs.Runs.{IsIn}
use Rattle.pp_objects.specs.Instances.{Instance, id_of, is_life, is_row_of, is_there, row_of}
use Rattle.pp_objects.specs.declared.id.ObjectId.{ObjectId}
use Rattle.pp_shelf_law.proofs.Shelves.{same_bytes}
use Rattle.pp_shelf_law.specs.Kept.{HasOneRow}
use Rattle.pp_shelf_law.specs.Shelf.{IsResting}
use Rattle.pp_state.specs.declared.state.State.{State as Turn}
use Rattle.pp_store.proofs.Lists.{found_passes}
use Rattle.pp_store.specs.Kept.{KeptMap}
use Rattle.pp_keeps_law.proofs.Entries.{off_of}
use Rattle.pp_keeps_law.specs.Keeps.{HasKept, on_disk}
use Rattle.pp_keeps_law.specs.Stands.{DisplacedOnesAreThere, HasOpenNames, IsShort, StandsToKeep}

-- ---- the table

-- the same entries, and all else that is not of the disk
pub same_table : (s t : State) → t ≡ on_disk t s → t.entries ≡ s.entries → IsSameTable s t
same_table s t rest entries = record {
  instances = ap (λ (u : State). u.instances) rest;
  made = subst (λ (n : ℕ). s.next_instance ≤ n) (sym (ap (λ (u : State). u.next_instance) rest)) (omega arith);
  chunks = ap (λ (u : State). u.chunks) rest;
  followers = λ n. ap (λ (u : State). count_by (follows n) u.clients) rest;
  kept = λ x. ap (λ (es : List Entry). elim x.is_retired as (λ c. ℕ) [ true ↦ 0 | false ↦ elim (find (is_kept_row_of x.key) es) as (λ c. ℕ) [ None ↦ 0 | Some e ↦ e.extent ] ]) entries;
}

-- which names are noted, and which instances grew, is no part of it
pub same_memory : (m : Memory) (names : List Bytes) (ids : List ObjectId) → IsSameMemory m (record m { outdated = names; grown = ids })
same_memory m names ids = record { instances = refl; lives = refl; chunks = refl; extents = refl }

pub memory_as_it_is : (m : Memory) → IsSameMemory m m
memory_as_it_is m = record { instances = refl; lives = refl; chunks = refl; extents = refl }

pub noted_cache : (number : ℕ → ℕ) (m : Memory) (s : State) (names : List Bytes) (ids : List ObjectId) → ShowsCache number m s → ShowsCache number (record m { outdated = names; grown = ids }) s
noted_cache number m s names ids shows = frames_of number m s shows (record m { outdated = names; grown = ids }) s (same_memory m names ids) (same_table s s refl refl)

pub moved_cache : (number : ℕ → ℕ) (m : Memory) (s t : State) → ShowsCache number m s → t ≡ on_disk t s → t.entries ≡ s.entries → ShowsCache number m t
moved_cache number m s t shows rest entries = frames_of number m s shows m t (memory_as_it_is m) (same_table s t rest entries)

-- ---- its bounds

as_long : (es : List Extent) (i : ℕ) (e : Extent) → length (slice_set es i e) ≡ length es
as_long [] i e = refl
as_long (x ∷ es) zero e = refl
as_long (x ∷ es) (suc i) e = ap (λ (n : ℕ). suc n) (as_long es i e)

pub kept_bounded : (m : Memory) (id : ObjectId) (n : ℕ) → IsBounded m → IsBounded (record m { extents = kept_to id n m.extents })
kept_bounded m id n b = record {
  slots = λ other there. subst (λ (k : ℕ). other.slot < k) (sym (as_long m.extents id.slot (record { id = id; bytes = n }))) (b.slots other there);
  fronts = b.fronts;
  ends = b.ends;
  cells = b.cells;
  few = b.few;
}

pub noted_bounded : (m : Memory) (names : List Bytes) (ids : List ObjectId) → IsBounded m → IsBounded (record m { outdated = names; grown = ids })
noted_bounded m names ids b = record { slots = b.slots; fronts = b.fronts; ends = b.ends; cells = b.cells; few = b.few }

-- ---- nothing is kept of a key any more

abbrev unkept_by : Option Instance → Memory → Memory
unkept_by found m = with_none_kept (option_map id_of found) m

pub unkept_outdated : (key : Bytes) (m : Memory) → (unkept key m).outdated ≡ m.outdated
unkept_outdated key m = by (row_of key m.instances)
  where
    by : (o : Option Instance) → (unkept_by o m).outdated ≡ m.outdated
    by None = refl
    by (Some i) = refl

pub unkept_bounded : (key : Bytes) (m : Memory) → IsBounded m → IsBounded (unkept key m)
unkept_bounded key m b = by (row_of key m.instances)
  where
    by : (o : Option Instance) → IsBounded (unkept_by o m)
    by None = b
    by (Some i) = kept_bounded m (id_of i) 0 b

-- the row of a key, in memory and in the law
pub record IsRowOf (number : ℕ → ℕ) (m : Memory) (s : State) (id : ObjectId) (key : Bytes) : Type 0 where
  pub known : Known
  pub there : IsRowThere number m s id known
  pub its_key : known.key ≡ key

row_there : (number : ℕ → ℕ) (m : Memory) (s : State) (key : Bytes) (i : Instance) (x : Known) → ShowsCache number m s → IsBounded m → row_of key m.instances ≡ Some i → ShowsInstance number m s i x → IsRowOf number m s (id_of i) key
row_there number m s key i x shows bounded is one =
    let there : is_there (id_of i) m.instances ≡ true = ap (λ (o : Option Instance). is_life i.life o) one.there ∙ number_same i.life in
    let found : IsFound number m s (id_of i) = instances_of number m s shows.table (id_of i) there in
    let seen : found.seen ≡ i = some_is found.seen i (sym found.here ∙ one.there) in
    let passes : is_row_of key i ≡ true = found_passes (is_row_of key) m.instances i is in
    record {
      known = found.known;
      there = record {
        there = there;
        known = found.there;
        row = sym found.shows.retired ∙ ap (λ (j : Instance). j.is_retired) seen ∙ off_of i.is_retired (first_holds (not i.is_retired) (bytes_eq i.key key) passes);
        slot = bounded.slots (id_of i) there;
      };
      its_key = sym found.shows.key ∙ ap (λ (j : Instance). j.key) seen ∙ same_bytes i.key key (second_holds (not i.is_retired) (bytes_eq i.key key) passes);
    }

pub gone_cache : (number : ℕ → ℕ) (m : Memory) (s : State) (key : Bytes) → ShowsCache number m s → IsBounded m → ShowsCache number (unkept key m) (note_gone key s)
gone_cache number m s key shows bounded = by (row_of key m.instances) refl (row s key) refl (rows_of number m s shows.table key)
  where
    by : (o : Option Instance) → row_of key m.instances ≡ o → (u : Option Known) → row s key ≡ u → AreBoth (ShowsInstance number m s) o u → ShowsCache number (unkept_by o m) (note_gone key s)
    by None here None there both = removals_of number m s shows key (inr there)
    by (Some i) here (Some x) there both =
        let r : IsRowOf number m s (id_of i) key = row_there number m s key i x shows bounded here both in
        subst (λ (k : Bytes). ShowsCache number (record m { extents = kept_to (id_of i) 0 m.extents }) (note_gone k s)) r.its_key (losses_of number m s shows (id_of i) r.known r.there)
    by None here (Some x) there both = absurd both
    by (Some i) here None there both = absurd both

-- ---- all of it

pub stands_on : (number : ℕ → ℕ) (p q : Turn) (shelf new : KeptMap) (s t : State) → StandsToKeep number p shelf s → t ≡ on_disk t s → IsResting new t → ShowsCache number q.cache t → IsBounded q.cache
    → AreNoted q.cache.outdated t.displaced t.entries → HasOpenNames t → DisplacedOnesAreThere t → All IsShort new.rows → q.has_lost_draft ≡ t.has_lost_draft → q.now ≡ p.now → q.run ≡ p.run → HasKept number q new s t
stands_on number p q shelf new s t stands rest rests cache bounded noted names displaced short lost now run = record {
  stands = record {
    rests = rests;
    cache = cache;
    bounded = bounded;
    noted = noted;
    names = names;
    displaced = displaced;
    short = short;
    lost = lost;
    alone = subst (λ (u : State). HasOneRow u) (sym rest) stands.alone;
    fields = λ x i. stands.fields x (subst (λ (xs : List Known). IsIn x xs) (ap (λ (u : State). u.instances) rest) i);
    clock = now ∙ stands.clock ∙ sym (ap (λ (u : State). u.clock) rest);
    run = run ∙ stands.run ∙ sym (ap (λ (u : State). run_len u) rest);
    few = subst (λ (n : ℕ). n ≤ 64) (sym (ap (λ (u : State). run_len u) rest)) stands.few;
  };
  rest = rest;
}
