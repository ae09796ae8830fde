-- The operations of each call, and what holds at each moment of it.
use Rattle.std.specs.Prelude.{◌≡◌, ◌⊎◌, true, false, List, [], ◌∷◌, Option, Some, Result, Ok, Err}
use Rattle.pp_world.specs.declared.happening.Happening.TheVariants.{Began, Did}
use Rattle.pp_world.specs.declared.op.DiskOp.{DiskOp}
use Rattle.pp_world.specs.declared.op.DiskOp.TheVariants.{Draft, SyncDraft, Publish}
use Rattle.pp_world.specs.Log.{AppendsAll, Log}
use Rattle.pp_world.specs.Disk.{Bytes, settled, view_of, LeavesOne}
use Rattle.pp_gate.specs.declared.publishing.PublishFault.{PublishFault}
use Rattle.pp_gate.specs.declared.publishing.PublishFault.TheVariants.{NoDraft, DiskFault}
use Rattle.pp_gate.specs.Runs.{RunsOps}

-- the draft is synced before it has a name
abbrev pub draft_ops : Bytes → List DiskOp
draft_ops file = Draft file ∷ SyncDraft ∷ []

abbrev pub publish_ops : Bytes → Bytes → List DiskOp
publish_ops name file = Draft file ∷ SyncDraft ∷ Publish name ∷ []

-- the file was published; there was no draft of it that is synced, and no name was touched; or the draft was not named
abbrev pub RunsPublish : {A : Type 0} → Option Log → Option Log → Bytes → Bytes → Result A PublishFault → Type 0
RunsPublish old new name file (Ok done) = RunsOps old new (publish_ops name file) true
RunsPublish old new name file (Err NoDraft) = RunsOps old new (draft_ops file) false
RunsPublish old new name file (Err DiskFault) =
    AppendsAll old new (λ l. Began (Draft file) ∷ Did (Draft file) true ∷ Began SyncDraft ∷ Did SyncDraft true ∷ Began (Publish name) ∷ Did (Publish name) false ∷ [])

-- a crash leaves under the name what it would have left before the call, or this file
abbrev pub OldOr : Bytes → Option Bytes → Log → Log → Type 0
OldOr name new before log = (file : Option Bytes) → LeavesOne (view_of name log).slot file → LeavesOne (view_of name before).slot file ⊎ (file ≡ new)

-- each other name stands as before
abbrev pub OthersSame : Bytes → Log → Log → Type 0
OthersSame name before log = (other : Bytes) → (name ≡ other → ⊥) → (view_of other log).slot ≡ (view_of other before).slot

-- no operation on the name, and no read of its file, failed in this life
abbrev pub IsUnfailed : Bytes → Log → Type 0
IsUnfailed name log = (view_of name log).failed ≡ false

-- this file stands under the name, all of it through a crash
abbrev pub HoldsJust : Bytes → Bytes → Log → Type 0
HoldsJust name file log = (view_of name log).slot ≡ Some (settled file) ∷ []
