-- An offset of an instance that is in memory, as its cells tell.
use Rattle.std.specs.Prelude.{ℕ, Bool, ◌&&◌, nat_lt}
use Rattle.pp_holes.specs.Cells.{Table, is_in_memory}

abbrev pub has_offset : Table → ℕ → Bool
has_offset t o = nat_lt o t.total && is_in_memory t.cells o
