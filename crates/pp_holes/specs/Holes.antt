-- What is missing of an instance in memory.
use Rattle.std.specs.Prelude.{ℕ, ◌≡◌, ◌≤◌, ◌<◌, true, false, min}
use Rattle.pp_holes.specs.Cells.{Table, is_in_memory}

-- the first span of offsets that are not in memory, from an offset on: all between are in memory, and it goes
-- up to the next offset in memory, which begins a chunk, or to the length; where nothing is missing, it is
-- empty and stands at the length
pub record IsFirstHole (t : Table) (at : ℕ) (hole : ℕ × ℕ) : Type 0 where
  pub behind : min at t.total ≤ hole.0
  pub ordered : hole.0 ≤ hole.1
  pub within : hole.1 ≤ t.total
  pub none_before : (o : ℕ) → at ≤ o → o < hole.0 → is_in_memory t.cells o ≡ true
  pub missing : (o : ℕ) → hole.0 ≤ o → o < hole.1 → is_in_memory t.cells o ≡ false
  pub begins : hole.0 < t.total → hole.0 < hole.1
  pub ends : hole.1 < t.total → is_in_memory t.cells hole.1 ≡ true
