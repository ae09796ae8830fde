-- How a listing of a folder fails.
use Rattle.std.specs.Prelude.{Bool, true, false, Result, Ok, Err}
use Rattle.pp_world.specs.declared.disk.NamesFault.{NamesFault}
use Rattle.pp_world.specs.declared.disk.NamesFault.TheVariants.{Disk, OutOfMemory}

-- by its number
abbrev pub is_lost : {A : Type 0} → Result A NamesFault → Bool
is_lost (Ok names) = false
is_lost (Err Disk) = true
is_lost (Err OutOfMemory) = false

-- for want of memory
abbrev pub is_short : {A : Type 0} → Result A NamesFault → Bool
is_short (Ok names) = false
is_short (Err Disk) = false
is_short (Err OutOfMemory) = true
