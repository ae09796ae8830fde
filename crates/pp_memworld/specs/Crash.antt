-- The life after a crash.
use Rattle.std.specs.Prelude.{◌≡◌, ◌<◌, ◌≤◌, ℕ, [], ◌∷◌, ◌++◌, length, take, Option, Some, None}
use Rattle.pp_world.specs.declared.happening.Happening.TheVariants.{Woke}
use Rattle.pp_world.specs.Connections.{top_of}
use Rattle.pp_world.specs.Disk.{IsLeftBehind}
use Rattle.pp_world.specs.Files.{Files}
use Rattle.pp_world.specs.Log.{Log}
use Rattle.pp_memworld.specs.declared.memworld.MemWorld.{MemWorld}
use Rattle.pp_memworld.specs.declared.record.Record.{Record}
use Rattle.pp_memworld.specs.Record.{record_log}

-- the log goes on with a Woke of files that a crash may leave; numbers go on above those of the log, and no fault is counted
pub record Continues (log : Log) (r : Record) : Type 0 where
  pub image : Files
  pub left : IsLeftBehind log image
  pub goes_on : record_log r ≡ Some (log ++ Woke image ∷ [])
  pub top : r.top ≡ top_of log
  pub faults : r.faults ≡ 0

-- after so many happenings of a log that is told, where there are so many
abbrev pub Crashes : ℕ → Option Log → Option MemWorld → Type 0
Crashes at None next = next ≡ None
Crashes at (Some log) None = length log < at
Crashes at (Some log) (Some w) = (at ≤ length log) × Continues (take at log) w.record
