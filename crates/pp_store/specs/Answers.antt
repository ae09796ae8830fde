-- When an entry is not kept, and the operations of each call.
use Rattle.std.specs.Prelude.{◌≡◌, ⊤, ℕ, ◌+◌, Bool, true, nat_le, cond, List, [], length, Option, Some, None, Result, Ok, Err}
use Rattle.pp_world.specs.declared.op.DiskOp.{DiskOp}
use Rattle.pp_world.specs.Log.{Log, Rises}
use Rattle.pp_world.specs.Disk.{Bytes}
use Rattle.pp_target.specs.Name.{name_of}
use Rattle.pp_entry.specs.Entries.{Row}
use Rattle.pp_entry.specs.Spelling.{text_of}
use Rattle.pp_entry.specs.Texts.{chunks_of, fits}
use Rattle.pp_gate.specs.declared.publishing.PublishFault.TheVariants.{NoDraft as NoDraftThere, DiskFault as NotNamed}
use Rattle.pp_gate.specs.Files.{whole_file}
use Rattle.pp_gate.specs.Gate.{RunsPublish}
use Rattle.pp_gate.specs.Runs.{RunsOps}
use Rattle.pp_gate.specs.Seal.{seal_ops}
use Rattle.pp_store.specs.declared.faults.KeepFault.{KeepFault}
use Rattle.pp_store.specs.declared.faults.KeepFault.TheVariants.{Closed, Full, TooLong, NoDraft, DiskFault, OutOfMemory}
use Rattle.pp_store.specs.Kept.{Kept, KeptMap, is_closed, name_at, block_of}

-- ours: 10,000 names at most are kept or closed
abbrev pub is_full : KeptMap → Bool
is_full store = nat_le 10000 (length store.rows + length store.closed)

-- what stands in the way of keeping an entry, the first of these
abbrev pub refusal_of : Row → KeptMap → Option KeepFault
refusal_of entry store =
    cond (is_closed (name_of entry.key) store) (Some Closed)
    (cond (is_full store) (Some Full)
    (cond (fits entry.fields (text_of entry)) None (Some TooLong)))

-- where nothing stands in the way, only memory and the disk may fail
abbrev pub IsLate : {A : Type 0} → Result A KeepFault → Type 0
IsLate (Ok done) = ⊤
IsLate (Err Closed) = ⊥
IsLate (Err Full) = ⊥
IsLate (Err TooLong) = ⊥
IsLate (Err NoDraft) = ⊤
IsLate (Err DiskFault) = ⊤
IsLate (Err OutOfMemory) = ⊤

abbrev pub Answers : {A : Type 0} → Option KeepFault → Result A KeepFault → Type 0
Answers None result = IsLate result
Answers (Some fault) result = result ≡ Err fault

-- the file of an entry that keeps these first bytes of its body
abbrev pub file_with : Row → Bytes → Bytes
file_with entry kept = whole_file (block_of entry) entry.version.length kept

-- the operations of `keep`: none where something else than the disk stands in the way
abbrev pub RunsKeep : {A : Type 0} → Option Log → Option Log → Row → Bytes → Result A KeepFault → Type 0
RunsKeep {A = A} old new entry kept (Ok done) = RunsPublish {A = A} old new (name_of entry.key) (file_with entry kept) (Ok done)
RunsKeep old new entry kept (Err Closed) = RunsOps old new [] true
RunsKeep old new entry kept (Err Full) = RunsOps old new [] true
RunsKeep old new entry kept (Err TooLong) = RunsOps old new [] true
RunsKeep {A = A} old new entry kept (Err NoDraft) = RunsPublish {A = A} old new (name_of entry.key) (file_with entry kept) (Err NoDraftThere)
RunsKeep {A = A} old new entry kept (Err DiskFault) = RunsPublish {A = A} old new (name_of entry.key) (file_with entry kept) (Err NotNamed)
RunsKeep old new entry kept (Err OutOfMemory) = RunsOps old new [] true

-- the disk fails only where its count rose, and is not touched where something else stands in the way
abbrev pub KeepCause : {A : Type 0} → Option Log → ℕ → ℕ → Result A KeepFault → Type 0
KeepCause log before now (Ok done) = ⊤
KeepCause log before now (Err Closed) = now ≡ before
KeepCause log before now (Err Full) = now ≡ before
KeepCause log before now (Err TooLong) = now ≡ before
KeepCause log before now (Err NoDraft) = Rises log before now
KeepCause log before now (Err DiskFault) = Rises log before now
KeepCause log before now (Err OutOfMemory) = now ≡ before

-- the operations of `extend`: the chunks, and behind their sync the gates
abbrev pub extend_ops : Kept → Bytes → List DiskOp
extend_ops row bytes = seal_ops (name_at row) row.entry.version.length (chunks_of row.extent) (chunks_of (length bytes)) bytes

-- the head block is written, where nothing stands in the way
abbrev pub IsDue : Row → KeptMap → Result Bytes KeepFault → Type 0
IsDue entry store (Ok block) = (refusal_of entry store ≡ None) × (block ≡ block_of entry)
IsDue entry store (Err fault) = refusal_of entry store ≡ Some fault
