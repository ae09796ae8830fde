-- What is no part of the table may change: the cache shows it still.
use Rattle.std.specs.Prelude.{◌≡◌, ◌≤◌, ℕ, count_by, []}
use Rattle.pp_cache.specs.Memory.{Memory, empty_memory}
use Rattle.pp_law.specs.State.{State, Instance as Known}
use Rattle.pp_law.specs.Table.{extent_of, follows}
use Rattle.pp_cache_law.specs.Tables.{OfCaches, ShowsCache}

-- an empty cache, of whatever size, and an empty table that no client follows
abbrev pub BeginningsAreTheLaws : Type 0
BeginningsAreTheLaws = (number : ℕ → ℕ) (size : ℕ) (s : State) → s.instances ≡ [] → s.chunks ≡ [] → s.clients ≡ [] → ShowsCache number (empty_memory size) s

-- but for how many chunks there may be, which instances grew in this turn, and which entries are noted as outdated
pub record IsSameMemory (m k : Memory) : Type 0 where
  pub instances : k.instances ≡ m.instances
  pub lives : k.lives ≡ m.lives
  pub chunks : k.chunks ≡ m.chunks
  pub extents : k.extents ≡ m.extents

-- but for all that is of clients, exchanges, the disk and the turn: as many follow each instance, and it is kept as far. A number
-- may be passed over
pub record IsSameTable (s t : State) : Type 0 where
  pub instances : t.instances ≡ s.instances
  pub made : s.next_instance ≤ t.next_instance
  pub chunks : t.chunks ≡ s.chunks
  pub followers : (n : ℕ) → count_by (follows n) t.clients ≡ count_by (follows n) s.clients
  pub kept : (x : Known) → extent_of t x ≡ extent_of s x

abbrev pub FramesAreTheLaws : Type 0
FramesAreTheLaws = OfCaches (λ number m s. (k : Memory) (t : State) → IsSameMemory m k → IsSameTable s t → ShowsCache number k t)
