-- Each used chunk of the pool is the chunk of exactly one place of one instance.
use Rattle.std.specs.Prelude.{ℕ, List}
use Rattle.pp_pool.specs.Chunks.{Used}
use Rattle.pp_holes.specs.Cells.{Agrees}
use Rattle.pp_objects.specs.Instances.{Instance, cells_at}

-- the cells of each instance agree with the pool under the instance's slot, and a slot without an instance
-- owns no chunk
abbrev pub AllAgree : List Instance → List Used → Type 0
AllAgree is us = (slot : ℕ) → Agrees slot (cells_at slot is) us
