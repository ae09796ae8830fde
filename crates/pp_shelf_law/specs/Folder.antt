-- The law's disk is the log's: the last Woke, and each operation since (ours). What reads may give of a file is the same in both.
use Rattle.std.specs.Prelude.{◌≡◌, false, List, [], ◌∷◌, ◌++◌, fold}
use Rattle.pp_law.specs.Lists.{Bytes}
use Rattle.pp_law.specs.State.{State, Term}
use Rattle.pp_obeys.specs.Obeys.{Obeys}
use Rattle.pp_world.specs.Disk.{view_of}
use Rattle.pp_world.specs.Log.{Log}
use Rattle.pp_world.specs.declared.happening.Happening.{Happening}
use Rattle.pp_world.specs.declared.happening.Happening.TheVariants.{Woke, Began, Did}

abbrev pub disk_with : Log → Happening → Log
disk_with disk (Woke image) = Woke image ∷ []
disk_with disk (Began op) = disk ++ Began op ∷ []
disk_with disk (Did op ok) = disk ++ Did op ok ∷ []
disk_with disk happening = disk

abbrev pub disk_of : Log → Log
disk_of log = fold disk_with [] log

abbrev pub DisksAreTheLogs : Type 0
DisksAreTheLogs = (terms : List Term) (s : State) (log : Log) → Obeys terms s log → s.disk ≡ disk_of log

-- under a name on which nothing failed in this life the same stands; a file that could not be read is no part of the law's disk, but
-- its name is closed
abbrev pub FilesAreTheLogs : Type 0
FilesAreTheLogs = (log : Log) (name : Bytes) → (view_of name log).failed ≡ false → view_of name (disk_of log) ≡ view_of name log
