-- What the cache holds in memory: chunks by place, each with the front of its bytes, least recently used first.
use Rattle.std.specs.Prelude.{ℕ, ◌/◌, ◌%◌, Bool, ◌==◌, ◌&&◌, not, List, [], ◌∷◌, ◌++◌, Option, map, slice_get}
use Rattle.std.specs.List.{filter}
use Rattle.pp_pool.specs.Chunks.{Used}

-- a chunk of an instance: the pool's number is nobody's business
pub record Chunk : Type 0 where
  pub owner : ℕ
  pub index : ℕ
  pub bytes : List ℕ

abbrev pub show : Used → Chunk
show u = record { owner = u.owner; index = u.index; bytes = u.bytes }

-- the chunks of a pool, in the order of use
abbrev pub shown : List Used → List Chunk
shown us = map show us

-- a place is an owner and an index
abbrev pub is_at : ℕ × ℕ → Chunk → Bool
is_at at c = (c.owner == at.0) && (c.index == at.1)

abbrev pub is_elsewhere : ℕ × ℕ → Chunk → Bool
is_elsewhere at c = not (is_at at c)

abbrev pub first_bytes : List Chunk → List ℕ
first_bytes [] = []
first_bytes (c ∷ cs) = c.bytes

-- what is held of the chunk at a place
abbrev pub bytes_at : ℕ × ℕ → List Chunk → List ℕ
bytes_at at cs = first_bytes (filter (is_at at) cs)

-- the finite map from offset to byte that an owner's cells and the pool stand for
abbrev pub byte_at : ℕ → List Chunk → ℕ → Option ℕ
byte_at owner cs o = slice_get (bytes_at (owner, o / 4096) cs) (o % 4096)

-- bytes join the chunk at a place, which is then the most recently used
abbrev pub joined : ℕ × ℕ → List ℕ → List Chunk → List Chunk
joined at bs cs = filter (is_elsewhere at) cs ++ record { owner = at.0; index = at.1; bytes = bytes_at at cs ++ bs } ∷ []

-- the chunk at a place is out
abbrev pub without : ℕ × ℕ → List Chunk → List Chunk
without at cs = filter (is_elsewhere at) cs

-- the chunk at a place comes last, as the most recently used
abbrev pub touched : ℕ × ℕ → List Chunk → List Chunk
touched at cs = filter (is_elsewhere at) cs ++ filter (is_at at) cs

abbrev pub is_of_other : ℕ → Chunk → Bool
is_of_other owner c = not (c.owner == owner)

-- all chunks of an owner are out
abbrev pub without_owner : ℕ → List Chunk → List Chunk
without_owner owner cs = filter (is_of_other owner) cs
