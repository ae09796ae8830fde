-- What is missing of an instance in memory (RFC 7233, section 4.3).
use Rattle.std.specs.Prelude.{ℕ, zero, suc, ◌+◌, ◌-◌, Bool, not, cond, min, List}
use Rattle.pp_holes.specs.Places.{Chunk}
use Rattle.pp_objects.specs.Instances.{is_there, total_at}
use Rattle.pp_objects.specs.declared.id.ObjectId.{ObjectId}
use Rattle.pp_cache.specs.Memory.{Memory, is_in_memory}

-- the first of so many offsets, from one on, for which it holds; the one behind them, where it holds for none
abbrev pub first_from : ℕ → ℕ → (ℕ → Bool) → ℕ
first_from zero at is = at
first_from (suc more) at is = cond (is at) at (first_from more (at + 1) is)

-- the first offset that is not in memory, from one on, up to the end of the body
abbrev pub missing_from : ℕ → ℕ → ℕ → List Chunk → ℕ
missing_from slot total at cs = first_from (total - at) (min at total) (λ o. not (is_in_memory slot o cs))

-- and the first that is
abbrev pub held_from : ℕ → ℕ → ℕ → List Chunk → ℕ
held_from slot total at cs = first_from (total - at) at (λ o. is_in_memory slot o cs)

-- the first span of offsets that are not in memory: from there, up to the next offset that is, or to the end
abbrev pub hole_in : ℕ → ℕ → ℕ → List Chunk → ℕ × ℕ
hole_in slot total at cs = (missing_from slot total at cs, held_from slot total (missing_from slot total at cs) cs)

-- of an instance that is gone there is none
abbrev pub hole_of : ObjectId → ℕ → Memory → ℕ × ℕ
hole_of id at m = cond (is_there id m.instances) (hole_in id.slot (total_at id.slot m.instances) at m.chunks) (at, at)
