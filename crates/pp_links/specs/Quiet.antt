-- What a call of the connections adds to the log behind an event: nothing printed, nothing of the opening or of the disk, and no
-- other wait or stop.
use Rattle.std.specs.Prelude.{◌≡◌, Bool, true, false, ◌++◌, Option, Some}
use Rattle.std.specs.List.{list_all}
use Rattle.pp_world.specs.declared.happening.Happening.{Happening}
use Rattle.pp_world.specs.declared.happening.Happening.TheVariants.{Woke, Waits, Stopped, Began, Did, Unread, Rooted, Listed, Listens, Configured, Printed}
use Rattle.pp_world.specs.Log.{Log}

abbrev pub is_quiet : Happening → Bool
is_quiet (Woke image) = false
is_quiet (Waits wants) = false
is_quiet Stopped = false
is_quiet (Began op) = false
is_quiet (Did op ok) = false
is_quiet (Unread name) = false
is_quiet (Rooted folder) = false
is_quiet (Listed ok) = false
is_quiet (Listens port ok) = false
is_quiet (Configured name text) = false
is_quiet (Printed text) = false
is_quiet happening = true

abbrev pub IsQuiet : Log → Type 0
IsQuiet log = list_all is_quiet log ≡ true

-- the log that was told before is the front of the one that is told now, and only this came behind it
pub record GrowsQuietly (old new : Option Log) : Type 0 where
  pub was : (l : Log) → new ≡ Some l → (before : Log) × (old ≡ Some before) × ((added : Log) × (l ≡ before ++ added) × (list_all is_quiet added ≡ true))

-- the same, with these in between
pub record GrowsBy (first : Log) (P : Log → Type 0) (old new : Option Log) : Type 0 where
  pub was : (l : Log) → new ≡ Some l → (before : Log) × (old ≡ Some before) × ((rest : Log) × (l ≡ before ++ (first ++ rest)) × P rest)
