-- What a crash leaves of the log it leaves of the law's disk, and no more (ours). What could not be read is no part of that disk (Folder of
-- `pp_shelf_law`), so that a sync behind it would settle a file there and none in the log; but such a name is closed, and nothing is begun on it for the
-- rest of that life, in the opening or in turns.
use Rattle.std.specs.Prelude.{◌≡◌, true, List}
use Rattle.pp_law.specs.Lists.{Bytes}
use Rattle.pp_law.specs.State.{State, Term}
use Rattle.pp_law.specs.Store.{is_closed}
use Rattle.pp_obeys.specs.Obeys.{Obeys}
use Rattle.pp_world.specs.Disk.{IsLeftBehind, View, view_of}
use Rattle.pp_world.specs.Files.{Files}
use Rattle.pp_world.specs.Log.{Log}

-- the same files may stand under the name, and the same draft beside them
pub record StandsAs (v w : View) : Type 0 where
  pub slot : v.slot ≡ w.slot
  pub draft : v.draft ≡ w.draft

-- what could not be read, and what an operation failed on
abbrev pub FailedNamesAreClosed : Type 0
FailedNamesAreClosed = (terms : List Term) (s : State) (log : Log) (name : Bytes) → Obeys terms s log → (view_of name log).failed ≡ true → is_closed s name ≡ true

abbrev pub FilesStandAsLogged : Type 0
FilesStandAsLogged = (terms : List Term) (s : State) (log : Log) (name : Bytes) → Obeys terms s log → StandsAs (view_of name s.disk) (view_of name log)

-- whatever a crash leaves of the one it may leave of the other
pub record LeavesTheSame (disk log : Log) (files : Files) : Type 0 where
  pub to : IsLeftBehind log files → IsLeftBehind disk files
  pub back : IsLeftBehind disk files → IsLeftBehind log files

abbrev pub CrashesLeaveTheDisk : Type 0
CrashesLeaveTheDisk = (terms : List Term) (s : State) (log : Log) (files : Files) → Obeys terms s log → LeavesTheSame s.disk log files
