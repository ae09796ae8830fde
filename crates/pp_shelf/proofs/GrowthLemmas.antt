-- A call of the store adds nothing to the log but operations, and a file that could not be read.
use Rattle.std.proofs.Common.{◌≡◌, inl, inr, ℕ, Bool, true, List, [], ◌∷◌, Option, Result, Ok, Err, refl, ◌∙◌, ap}
use Rattle.std.specs.List.{list_all}
use Rattle.pp_world.specs.declared.op.DiskOp.{DiskOp}
use Rattle.pp_world.specs.Disk.{Bytes}
use Rattle.pp_world.specs.Log.{AppendsAll, Log}
use Rattle.pp_shelf.specs.Steady.{GrowsOnDisk, is_on_disk}
use Rattle.pp_entry.specs.Entries.{Row}
use Rattle.pp_gate.specs.Runs.{Ran, RunsOps}
use Rattle.pp_store.specs.declared.faults.KeepFault.{KeepFault}
use Rattle.pp_store.specs.declared.faults.KeepFault.TheVariants.{Closed, Full, TooLong, NoDraft, DiskFault, OutOfMemory}
use Rattle.pp_store.specs.declared.faults.LoadFault.{LoadFault}
use Rattle.pp_store.specs.declared.faults.LoadFault.TheVariants.{DiskFault as LoadFailed, Short}
use Rattle.pp_store.specs.Answers.{RunsKeep}
use Rattle.pp_store.specs.Loads.{load_happenings}

pub ran_on_disk : (ops : List DiskOp) (ok : Bool) (hs : Log) → Ran ops ok hs → list_all is_on_disk hs ≡ true
ran_on_disk [] ok hs ran = ap (list_all is_on_disk) ran.1
ran_on_disk (op ∷ ops) ok hs (inl ran) = ap (list_all is_on_disk) ran.1
ran_on_disk (op ∷ ops) ok hs (inr ran) = ap (list_all is_on_disk) ran.1 ∙ ran_on_disk ops ok ran.0 ran.2

pub runs_on_disk : {old new : Option Log} (ops : List DiskOp) (ok : Bool) → RunsOps old new ops ok → GrowsOnDisk old new
runs_on_disk ops ok runs = record {
  was = λ l is. let w = runs.was l is in (w.0, w.2, (w.1, w.3, ran_on_disk ops ok w.1 w.4));
}

appends_on_disk : {old new : Option Log} (added : Log) → list_all is_on_disk added ≡ true → AppendsAll old new (λ l. added) → GrowsOnDisk old new
appends_on_disk added all call = record { was = λ l is. let w = call.was l is in (w.0, w.1, (added, w.2, all)) }

pub keep_on_disk : {A : Type 0} {old new : Option Log} (entry : Row) (kept : Bytes) (result : Result A KeepFault) → RunsKeep {A = A} old new entry kept result → GrowsOnDisk old new
keep_on_disk entry kept (Ok done) runs = runs_on_disk _ _ runs
keep_on_disk entry kept (Err Closed) runs = runs_on_disk _ _ runs
keep_on_disk entry kept (Err Full) runs = runs_on_disk _ _ runs
keep_on_disk entry kept (Err TooLong) runs = runs_on_disk _ _ runs
keep_on_disk entry kept (Err NoDraft) runs = runs_on_disk _ _ runs
keep_on_disk entry kept (Err DiskFault) runs = appends_on_disk _ refl runs
keep_on_disk entry kept (Err OutOfMemory) runs = runs_on_disk _ _ runs

pub load_on_disk : {old new : Option Log} (name : Bytes) (result : Result ℕ LoadFault) → AppendsAll old new (λ l. load_happenings name result) → GrowsOnDisk old new
load_on_disk name (Ok count) call = appends_on_disk [] refl call
load_on_disk name (Err LoadFailed) call = appends_on_disk _ refl call
load_on_disk name (Err (Short wanted got)) call = appends_on_disk [] refl call
