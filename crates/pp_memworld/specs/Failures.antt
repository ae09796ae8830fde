-- The names on which an operation failed in this life.
use Rattle.std.specs.Prelude.{◌≡◌, Bool, ◌||◌, bytes_eq}
use Rattle.std.specs.BTreeSet.{BTreeSet, contains}
use Rattle.pp_world.specs.Disk.{Bytes}
use Rattle.pp_world.specs.Files.{name_order}

abbrev pub has_failed : Bytes → BTreeSet Bytes → Bool
has_failed name failed = contains name_order failed name

-- one name more
abbrev pub Adds : Bytes → BTreeSet Bytes → BTreeSet Bytes → Type 0
Adds name old new = (other : Bytes) → has_failed other new ≡ (has_failed other old || bytes_eq name other)
