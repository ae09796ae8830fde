-- What is known of the offsets in memory beside the cells, and how it changes.
use Rattle.std.specs.Prelude.{ℕ, ◌≡◌, ◌≤◌, ◌<◌, true, false, List, Option}
use Rattle.std.specs.List.{sum_by}
use Rattle.pp_holes.specs.declared.cell.Cell.{Cell}
use Rattle.pp_holes.specs.Cells.{cell_of, filled_of, is_in_memory}

-- how many offsets are in memory
abbrev pub held_in : List (Option Cell) → ℕ
held_in cs = sum_by filled_of cs

-- nothing is in memory behind the end of the instance
abbrev pub EndsWithin : List (Option Cell) → ℕ → Type 0
EndsWithin cs total = (o : ℕ) → total ≤ o → is_in_memory cs o ≡ false

-- so many offsets are in memory; the leading run of them ends at `lead`, and none is from `reach` on
pub record AreKnown (cs : List (Option Cell)) (total held lead reach : ℕ) : Type 0 where
  pub count : held ≡ held_in cs
  pub within : lead ≤ total
  pub led : (o : ℕ) → o < lead → is_in_memory cs o ≡ true
  pub ends : lead < total → is_in_memory cs lead ≡ false
  pub empty : (o : ℕ) → reach ≤ o → is_in_memory cs o ≡ false
  pub reached : reach ≤ total

-- the chunk of this index comes to hold so many bytes, no fewer than before; all others stay
pub record IsRaised (cs ds : List (Option Cell)) (i n : ℕ) : Type 0 where
  pub here : filled_of (cell_of ds i) ≡ n
  pub more : filled_of (cell_of cs i) ≤ n
  pub rest : (j : ℕ) → (j ≡ i → ⊥) → cell_of ds j ≡ cell_of cs j

-- what was in memory still is, and from an offset on nothing has changed
pub record Grows (cs ds : List (Option Cell)) (to : ℕ) : Type 0 where
  pub kept : (o : ℕ) → is_in_memory cs o ≡ true → is_in_memory ds o ≡ true
  pub behind : (o : ℕ) → to ≤ o → is_in_memory ds o ≡ is_in_memory cs o
