-- What is full behind what is kept, as the cache and the shelf change.
use Rattle.std.proofs.Common.{◌≡◌, refl, sym, ap, ◌∙◌, ℕ, ◌-◌, ◌*◌, Bool, true, false, not, cond, find, filter, List, Option, Some, None, Result, Ok, Err}
use Rattle.std.specs.Prelude.{bytes_eq, min, option_map}
use Rattle.pp_cache.specs.Holes.{hole_in, hole_of}
use Rattle.pp_cache.specs.Memory.{Memory}
use Rattle.pp_cache_law.proofs.Finds.{find_kept, find_out}
use Rattle.pp_holes.specs.Places.{Chunk}
use Rattle.pp_keeping.specs.Kept.{unkept, unkept_of, with_none_kept}
use Rattle.pp_keeping.specs.Runs.{full, full_run}
use Rattle.pp_law.specs.Lists.{Bytes}
use Rattle.pp_objects.specs.Instances.{Instance, id_of, is_there, row_of, total_at}
use Rattle.pp_objects.specs.declared.id.ObjectId.{ObjectId}
use Rattle.pp_shelf_law.proofs.Shelves.{same_bytes}
use Rattle.pp_state.specs.Bringing.{instance_of}
use Rattle.pp_state.specs.declared.state.State.{State as Turn}
use Rattle.pp_store.specs.Changes.{is_other, withdrawn_after, without as without_key}
use Rattle.pp_store.specs.Kept.{Kept as KeptRow, KeptMap, is_of, kept_of}
use Rattle.pp_world.specs.declared.disk.DiskFault.{DiskFault}
use Rattle.pp_keeps_law.specs.All.{AreAmong, HasNextRun, IsSameBody}

-- ---- in memory

pub full_same : (p q : Turn) (id : ObjectId) (n from : ℕ) → IsSameBody p q → full_run q id n from ≡ full_run p id n from
full_same p q id n from same =
    ap (λ (r : ℕ). full (min (4096 * r) (n - from)) ((hole_of id from q.cache).0 - from)) same.run
    ∙ ap (λ (is : List Instance). full (min (4096 * p.run) (n - from)) ((cond (is_there id is) (hole_in id.slot (total_at id.slot is) from q.cache.chunks) (from, from)).0 - from)) same.instances
    ∙ ap (λ (cs : List Chunk). full (min (4096 * p.run) (n - from)) ((cond (is_there id p.cache.instances) (hole_in id.slot (total_at id.slot p.cache.instances) from cs) (from, from)).0 - from)) same.chunks

pub next_before : (p q : Turn) (shelf new : KeptMap) (id : ObjectId) (i : Instance) → IsSameBody p q → (next : HasNextRun q new id i) → kept_of i.key shelf ≡ Some next.kept → HasNextRun p shelf id i
next_before p q shelf new id i same n there = record {
  kept = n.kept;
  len = n.len;
  next = record { row = n.next.row; there = there; same = n.next.same; full = sym (full_same p q id i.version.length n.kept.extent same) ∙ n.next.full };
  body = n.body;
}

pub among_before : (ids : List ObjectId) (p q : Turn) (shelf new : KeptMap) → IsSameBody p q → ((key : Bytes) (k : KeptRow) → kept_of key new ≡ Some k → kept_of key shelf ≡ Some k) → AreAmong ids p shelf → AreAmong ids q new
among_before ids p q shelf new same fewer among id i found next =
    among id i (ap (λ (is : List Instance). instance_of id is) (sym same.instances) ∙ found) (next_before p q shelf new id i same next (fewer i.key next.kept next.next.there))

-- ---- where nothing is kept any more

pub record IsSameButKept (m k : Memory) : Type 0 where
  pub instances : k.instances ≡ m.instances
  pub lives : k.lives ≡ m.lives
  pub chunks : k.chunks ≡ m.chunks
  pub grown : k.grown ≡ m.grown
  pub outdated : k.outdated ≡ m.outdated

unkept_same : (key : Bytes) (m : Memory) → IsSameButKept m (unkept key m)
unkept_same key m = by (row_of key m.instances)
  where
    by : (o : Option Instance) → IsSameButKept m (with_none_kept (option_map id_of o) m)
    by None = record { instances = refl; lives = refl; chunks = refl; grown = refl; outdated = refl }
    by (Some i) = record { instances = refl; lives = refl; chunks = refl; grown = refl; outdated = refl }

pub unkept_of_same : (o : Option Bytes) (m : Memory) → IsSameButKept m (unkept_of o m)
unkept_of_same None m = record { instances = refl; lives = refl; chunks = refl; grown = refl; outdated = refl }
unkept_of_same (Some key) m = unkept_same key m

-- ---- on the shelf

pub fewer_without : (key k : Bytes) (shelf : KeptMap) (kept : KeptRow) → kept_of k (without_key key shelf) ≡ Some kept → kept_of k shelf ≡ Some kept
fewer_without key k shelf kept is = by (bytes_eq k key) refl
  where
    by : (b : Bool) → bytes_eq k key ≡ b → kept_of k shelf ≡ Some kept
    by true same =
        let none : find (is_of k) (filter (is_other key) shelf.rows) ≡ None = find_out (is_of k) (is_other key) shelf.rows (λ row passes. differs row (is_of k row) refl passes) in
        let both : None ≡ Some kept = sym none ∙ is in
        absurd (cc both)
      where
        differs : (row : KeptRow) → (b : Bool) → is_of k row ≡ b → is_other key row ≡ true → b ≡ false
        differs row false of passes = refl
        differs row true of passes =
            let out : not (bytes_eq row.entry.key key) ≡ false = ap not (ap (λ (t : Bytes). bytes_eq t key) (same_bytes row.entry.key k of) ∙ same) in
            let both : true ≡ false = sym passes ∙ out in
            absurd (cc both)
    by false other = sym (find_kept (is_of k) (is_other key) shelf.rows (λ row of. ap not (ap (λ (t : Bytes). bytes_eq t key) (same_bytes row.entry.key k of) ∙ other))) ∙ is

pub fewer_withdrawn : (r : Result (Unit {0}) DiskFault) (key k : Bytes) (shelf : KeptMap) (kept : KeptRow) → kept_of k (withdrawn_after r key shelf) ≡ Some kept → kept_of k shelf ≡ Some kept
fewer_withdrawn (Ok done) key k shelf kept is = fewer_without key k shelf kept is
fewer_withdrawn (Err fault) key k shelf kept is = fewer_without key k shelf kept is
