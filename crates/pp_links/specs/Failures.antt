-- The happenings in which the outside failed.
use Rattle.std.specs.Prelude.{Bool, true, false, not, is_some}
use Rattle.pp_world.specs.declared.happening.Happening.{Happening}
use Rattle.pp_world.specs.declared.happening.Happening.TheVariants.{Undialled, Did, Unread, Listed, Listens, Configured}

-- the outside failed in it
abbrev pub fails : Happening → Bool
fails (Undialled host port) = true
fails (Did op ok) = not ok
fails (Unread name) = true
fails (Listed ok) = not ok
fails (Listens port ok) = not ok
fails (Configured file text) = not (is_some text)
fails h = false
