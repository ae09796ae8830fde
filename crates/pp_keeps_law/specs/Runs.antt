-- A run of a body is full, and its bytes are at hand, in the cache and in the law alike (ours).
use Rattle.std.specs.Prelude.{◌≡◌, ◌<◌, ◌≤◌, ℕ, ◌+◌, ◌-◌, ◌/◌, true, false, Some, None}
use Rattle.pp_cache.specs.Bounds.{IsBounded}
use Rattle.pp_cache.specs.Memory.{Memory}
use Rattle.pp_cache_law.specs.Tables.{ShowsTable}
use Rattle.pp_keeping.specs.Runs.{full_run, laid}
use Rattle.pp_law.specs.Chunks.{chunk_len}
use Rattle.pp_law.specs.State.{State, Entry, Instance}
use Rattle.pp_law.specs.Store.{end_of_run, is_full_run, run_bytes, run_from, run_len}
use Rattle.pp_law.specs.Table.{instance}
use Rattle.pp_objects.specs.Instances.{is_there}
use Rattle.pp_objects.specs.declared.id.ObjectId.{ObjectId}
use Rattle.pp_state.specs.declared.state.State.{State as Turn}
use Rattle.pp_store.specs.Kept.{IsExtent}

-- an instance that is there, of whose body whole chunks are kept, and not all
pub record IsKeptInPart (number : ℕ → ℕ) (m : Memory) (s : State) (id : ObjectId) (x : Instance) (e : Entry) : Type 0 where
  pub there : is_there id m.instances ≡ true
  pub known : instance s (number id.life) ≡ Some x
  pub whole : IsExtent x.version.length e.extent
  pub inside : e.extent < x.version.length

-- of all that are, in a cache that shows the law's table, and is bounded as each is; both have the same length for a run
abbrev pub OfParts : (Turn → State → ObjectId → Instance → Entry → Type 0) → Type 0
OfParts P = (number : ℕ → ℕ) (p : Turn) (s : State) (id : ObjectId) (x : Instance) (e : Entry) → ShowsTable number p.cache s → IsBounded p.cache → p.run ≡ run_len s → IsKeptInPart number p.cache s id x e → P p s id x e

-- the same run is full, and as long
abbrev pub FullRunsAreTheLaws : Type 0
FullRunsAreTheLaws = OfParts (λ p s id x e. full_run p id x.version.length e.extent ≡ (elim (is_full_run s x e (run_from s x e)) [ true ↦ Some (end_of_run x e (run_from s x e) - e.extent) | false ↦ None ]))

-- and where a file has room for it, the bytes that are laid out are those of the law: a run has 64 chunks at most
abbrev pub LaidOnesAreTheLaws : Type 0
LaidOnesAreTheLaws = OfParts (λ p s id x e. (front room : ℕ) → run_len s ≤ 64 → is_full_run s x e (run_from s x e) ≡ true → front + (end_of_run x e (run_from s x e) - e.extent) ≤ room
    → laid front room id e.extent (end_of_run x e (run_from s x e) - e.extent) p.cache ≡ Some (run_bytes (run_from s x e) x.id s.chunks (e.extent / chunk_len)))
