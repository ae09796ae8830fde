-- Cells: for each chunk of an instance its number in the pool, and how much of it is filled.
use Rattle.std.specs.Prelude.{ℕ, ◌+◌, ◌/◌, ◌%◌, ◌≡◌, ◌≤◌, ◌<◌, Bool, not, ◌==◌, nat_lt, List, [], ◌∷◌, length, Option, Some, None, map, get_or, replicate, ⊤}
use Rattle.std.specs.List.{filter}
use Rattle.pp_pool.specs.Chunks.{Used, is_place, numbers, AreDistinct}
use Rattle.pp_holes.specs.declared.cell.Cell.{Cell}

-- whose cells, the length of the instance, and a cell for each of its chunks
pub record Table : Type 0 where
  pub owner : ℕ
  pub total : ℕ
  pub cells : List (Option Cell)

abbrev pub chunks_of : ℕ → ℕ
chunks_of total = (total + 4095) / 4096

-- nothing is in memory
abbrev pub empty_table : ℕ → ℕ → Table
empty_table owner total = record { owner = owner; total = total; cells = replicate (chunks_of total) None }

abbrev pub cell_of : List (Option Cell) → ℕ → Option Cell
cell_of cs i = get_or cs i None

abbrev pub filled_of : Option Cell → ℕ
filled_of None = 0
filled_of (Some c) = c.filled

-- an offset is in memory, as the cells alone tell
abbrev pub is_in_memory : List (Option Cell) → ℕ → Bool
is_in_memory cs o = nat_lt (o % 4096) (filled_of (cell_of cs (o / 4096)))

abbrev pub mark : Used → ℕ × ℕ
mark u = (u.number, length u.bytes)

abbrev pub marks : Option Cell → List (ℕ × ℕ)
marks None = []
marks (Some c) = (c.chunk, c.filled) ∷ []

-- the chunks of the pool at each place of this owner are the one of its cell, or none
abbrev pub OwnsItsChunks : List (Option Cell) → ℕ → List Used → Type 0
OwnsItsChunks cs owner us = (i : ℕ) → map mark (filter (is_place (owner, i)) us) ≡ marks (cell_of cs i)

-- a chunk in memory holds a front of its bytes, at least one
abbrev pub IsFront : Option Cell → Type 0
IsFront None = ⊤
IsFront (Some c) = (0 < c.filled) × (c.filled ≤ 4096)

-- cells and pool agree
pub record Agrees (owner : ℕ) (cs : List (Option Cell)) (us : List Used) : Type 0 where
  pub distinct : AreDistinct (numbers us)
  pub owns : OwnsItsChunks cs owner us
  pub fronts : (i : ℕ) → IsFront (cell_of cs i)

-- the chunks of the other owners, with their numbers
abbrev pub is_foreign : ℕ → Used → Bool
is_foreign owner u = not (u.owner == owner)

abbrev pub foreign : ℕ → List Used → List Used
foreign owner us = filter (is_foreign owner) us
