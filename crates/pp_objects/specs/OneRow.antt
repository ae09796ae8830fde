-- A key has at most one row.
use Rattle.std.specs.Prelude.{ℕ, ◌≤◌, List, count_by}
use Rattle.pp_objects.specs.Instances.{Instance, is_row_of}

abbrev pub HasOneRow : List Instance → Type 0
HasOneRow is = (key : List ℕ) → count_by (is_row_of key) is ≤ 1
