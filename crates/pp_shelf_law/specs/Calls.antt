-- What a call of the disk adds to the log (ours).
use Rattle.std.specs.Prelude.{◌≡◌, ◌≤◌, ℕ, Bool, false, List, Option, Result}
use Rattle.pp_gate.specs.Runs.{Ran, RunsOps}
use Rattle.pp_obeys.specs.Moves.{Adds}
use Rattle.pp_store.specs.Answers.{KeepCause, RunsKeep, file_with}
use Rattle.pp_store.specs.declared.faults.KeepFault.{KeepFault}
use Rattle.pp_entry.specs.Entries.{Row}
use Rattle.pp_target.specs.Name.{name_of}
use Rattle.pp_world.specs.Disk.{Bytes}
use Rattle.pp_world.specs.Log.{Log, Rises}
use Rattle.pp_world.specs.declared.op.DiskOp.{DiskOp}
use Rattle.pp_shelf_law.specs.Drafts.{RanKeep}

-- the operations of a call
abbrev pub RunsAdd : Type 0
RunsAdd = (old new : Option Log) (ops : List DiskOp) (ok : Bool) (before now : ℕ) → RunsOps old new ops ok → before ≤ now → (ok ≡ false → Rises new before now) → Adds old new before now (Ran ops ok)

-- those of a draft
abbrev pub KeepsAdd : Type 0
KeepsAdd = (old new : Option Log) (entry : Row) (kept : Bytes) (result : Result (Unit {0}) KeepFault) (before now : ℕ) → RunsKeep old new entry kept result → before ≤ now → KeepCause new before now result
    → Adds old new before now (RanKeep (name_of entry.key) (file_with entry kept) result)
