-- Why a folder was not opened, and how often the outside failed.
use Rattle.std.specs.Prelude.{◌≤◌, ⊤, ℕ, ◌+◌, Option, Result, Ok, Err, count_by}
use Rattle.pp_world.specs.declared.disk.NamesFault.{NamesFault}
use Rattle.pp_world.specs.declared.disk.NamesFault.TheVariants.{Disk as FolderFault, OutOfMemory as NoNames}
use Rattle.pp_world.specs.Log.{Log, Rises}
use Rattle.pp_links.specs.Failures.{fails}
use Rattle.pp_recover.specs.declared.faults.RecoverFault.{RecoverFault}
use Rattle.pp_recover.specs.declared.faults.RecoverFault.TheVariants.{DiskFault, OutOfMemory}

abbrev pub fault_of : NamesFault → RecoverFault
fault_of FolderFault = DiskFault
fault_of NoNames = OutOfMemory

-- the folder is at fault only where the count of faults rose
abbrev pub OpenCause : {A : Type 0} → Option Log → ℕ → ℕ → Result A RecoverFault → Type 0
OpenCause log before now (Ok store) = ⊤
OpenCause log before now (Err DiskFault) = Rises log before now
OpenCause log before now (Err OutOfMemory) = ⊤

-- each failure among these happenings, which came behind a log, was counted
abbrev pub CountsFailures : ℕ → ℕ → Log → Log → Type 0
CountsFailures before now log hs = before + count_by fails hs ≤ now
