-- What a turn adds to the log behind its event: what calls of the connections add, and what is done on the disk.
use Rattle.std.specs.Prelude.{◌≡◌, Bool, true, false, ◌||◌, ◌++◌, Option, Some}
use Rattle.std.specs.List.{list_all}
use Rattle.pp_world.specs.declared.happening.Happening.{Happening}
use Rattle.pp_world.specs.declared.happening.Happening.TheVariants.{Began, Did, Unread}
use Rattle.pp_world.specs.Log.{Log}
use Rattle.pp_links.specs.Quiet.{is_quiet}

-- an operation, or a file that could not be read
abbrev pub is_on_disk : Happening → Bool
is_on_disk (Began op) = true
is_on_disk (Did op ok) = true
is_on_disk (Unread name) = true
is_on_disk happening = false

abbrev pub is_steady : Happening → Bool
is_steady happening = is_quiet happening || is_on_disk happening

abbrev pub IsSteady : Log → Type 0
IsSteady log = list_all is_steady log ≡ true

abbrev pub IsOnDisk : Log → Type 0
IsOnDisk log = list_all is_on_disk log ≡ true

-- the log that was told before is the front of the one that is told now, and only this came behind it
pub record GrowsSteadily (old new : Option Log) : Type 0 where
  pub was : (l : Log) → new ≡ Some l → (before : Log) × (old ≡ Some before) × ((added : Log) × (l ≡ before ++ added) × (list_all is_steady added ≡ true))

pub record GrowsOnDisk (old new : Option Log) : Type 0 where
  pub was : (l : Log) → new ≡ Some l → (before : Log) × (old ≡ Some before) × ((added : Log) × (l ≡ before ++ added) × (list_all is_on_disk added ≡ true))
