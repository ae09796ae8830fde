-- Chunks of which bytes were said are used, in their order. It is ours.
use Rattle.std.specs.Prelude.{ℕ, zero, suc, ◌+◌, cond, List}
use Rattle.pp_holes.specs.Places.{Chunk, bytes_at, touched}
use Rattle.pp_text.specs.Bytes.{is_empty}

-- a chunk that is in memory is the most recently used one
unfoldable pub used_at : ℕ × ℕ → List Chunk → List Chunk
used_at at cs = cond (is_empty (bytes_at at cs)) cs (touched at cs)

-- so many chunks of an instance, from an index on
unfoldable pub used_run : ℕ → ℕ → ℕ → List Chunk → List Chunk
used_run zero slot index cs = cs
used_run (suc more) slot index cs = used_run more slot (index + 1) (used_at (slot, index) cs)
