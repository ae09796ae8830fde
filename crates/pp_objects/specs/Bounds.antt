-- What bounds the instances: their slots are low, and what is in memory of each lies within its body.
use Rattle.std.specs.Prelude.{ℕ, ◌≡◌, ◌<◌, true, List}
use Rattle.pp_holes.specs.Spans.{EndsWithin}
use Rattle.pp_objects.specs.Instances.{Instance, cells_at, is_there, total_at}
use Rattle.pp_objects.specs.declared.id.ObjectId.{ObjectId}

-- ours: there are 1,345 slots
abbrev pub AreLow : List Instance → Type 0
AreLow is = (id : ObjectId) → is_there id is ≡ true → id.slot < 1345

-- nothing is in memory behind the end of an instance
abbrev pub AreWithin : List Instance → Type 0
AreWithin is = (slot : ℕ) → EndsWithin (cells_at slot is) (total_at slot is)
