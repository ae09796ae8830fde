-- The calls of the disk in a turn, each with its note: what they add to the log, and where it leads (ours).
use Rattle.std.specs.Prelude.{◌≡◌, ◌≤◌, ℕ, ◌+◌, IfOk, is_ok, [], ◌∷◌, ◌++◌, length, Option, Some, Result}
use Rattle.pp_entry.specs.Entries.{Row}
use Rattle.pp_gate.specs.Runs.{Ran}
use Rattle.pp_law.specs.Lists.{Bytes}
use Rattle.pp_law.specs.State.{State, Entry, Instance}
use Rattle.pp_law.specs.Store.{drafted_with}
use Rattle.pp_obeys.specs.Moves.{Adds, Is}
use Rattle.pp_store.specs.Answers.{extend_ops, file_with}
use Rattle.pp_store.specs.Changes.{entry_with, extended_after, kept_after, withdrawn_after}
use Rattle.pp_store.specs.Kept.{Kept, KeptMap, kept_of}
use Rattle.pp_store.specs.declared.faults.KeepFault.{KeepFault}
use Rattle.pp_target.specs.Name.{name_of}
use Rattle.pp_valid.specs.declared.version.Version.{Version}
use Rattle.pp_world.specs.Log.{Log}
use Rattle.pp_world.specs.declared.disk.DiskFault.{DiskFault}
use Rattle.pp_world.specs.declared.happening.Happening.TheVariants.{Noted}
use Rattle.pp_world.specs.declared.note.Remark.TheVariants.{Gone}
use Rattle.pp_world.specs.declared.op.DiskOp.TheVariants.{Remove}
use Rattle.pp_shelf_law.specs.Drafts.{IsToDraft, RanKeep, draft_notes, drafted}
use Rattle.pp_shelf_law.specs.Kept.{HasOneRow}
use Rattle.pp_shelf_law.specs.Seals.{IsToSeal, seal_note, sealed}
use Rattle.pp_shelf_law.specs.Shelf.{IsResting}
use Rattle.pp_shelf_law.specs.Takings.{IsToGo, LeadsTo, taken_away}

-- the note that the entry of a key is gone, and its removal: they lead on from each state in which it is to go
pub record TakesAway (shelf : KeptMap) (key : Bytes) (result : Result (Unit {0}) DiskFault) (hs : Log) : Type 0 where
  pub ops : Log
  pub ran : Ran (Remove (name_of key) ∷ []) (is_ok result) ops
  pub is : hs ≡ Noted (Gone key) ∷ ops
  pub leads : (s : State) (e : Entry) → IsResting shelf s → IsToGo s key e → LeadsTo hs s (taken_away (is_ok result) ops e s) (withdrawn_after result key shelf)

abbrev pub TakingsLead : Type 0
TakingsLead = (old mid new : Option Log) (before between now : ℕ) (shelf : KeptMap) (key : Bytes) (result : Result (Unit {0}) DiskFault) → Adds old mid before between (Is (Noted (Gone key) ∷ [])) → Adds mid new between now (Ran (Remove (name_of key) ∷ []) (is_ok result))
    → Adds old new before now (TakesAway shelf key result)

-- a run of the row of a key was sealed, and its note: they lead on from each state in which it is due
pub record SealsRun (shelf : KeptMap) (kept : Kept) (key : Bytes) (version : Version) (bytes : Bytes) (result : Result ℕ DiskFault) (hs : Log) : Type 0 where
  pub ops : Log
  pub ran : Ran (extend_ops kept bytes) (is_ok result) ops
  pub is : hs ≡ ops ++ seal_note key version result ∷ []
  pub leads : (s : State) (x : Instance) (e : Entry) → x.key ≡ key → x.version ≡ version → IsResting shelf s → HasOneRow s → IsToSeal s x e bytes → LeadsTo hs s (sealed x e result ops s) (extended_after result key shelf)

abbrev pub SealsLead : Type 0
SealsLead = (old mid new : Option Log) (before between now : ℕ) (shelf : KeptMap) (kept : Kept) (key : Bytes) (version : Version) (bytes : Bytes) (result : Result ℕ DiskFault) → kept_of key shelf ≡ Some kept → IfOk result (λ extent. extent ≡ kept.extent + length bytes)
    → Adds old mid before between (Ran (extend_ops kept bytes) (is_ok result)) → Adds mid new between now (Is (seal_note key version result ∷ [])) → Adds old new before now (SealsRun shelf kept key version bytes result)

-- an entry was drafted, with so much of its body, and its note: they lead on from each state in which the draft of its row is due
pub record DraftsRow (shelf : KeptMap) (entry : Row) (extent : ℕ) (kept : Bytes) (result : Result (Unit {0}) KeepFault) (hs : Log) : Type 0 where
  pub ops : Log
  pub ran : RanKeep (name_of entry.key) (file_with entry kept) result ops
  pub is : hs ≡ ops ++ draft_notes entry.key entry.version extent result
  pub leads : (s : State) (x : Instance) → entry_with x.key x.version x.fields x.times ≡ entry → drafted_with s x ≡ extent → IsResting shelf s → HasOneRow s → IsToDraft s x kept → LeadsTo hs s (drafted x extent result ops s) (kept_after result entry extent shelf)

abbrev pub DraftsLead : Type 0
DraftsLead = (old mid new : Option Log) (before between now : ℕ) (shelf : KeptMap) (entry : Row) (extent : ℕ) (kept : Bytes) (result : Result (Unit {0}) KeepFault) → Adds old mid before between (RanKeep (name_of entry.key) (file_with entry kept) result)
    → Adds mid new between now (Is (draft_notes entry.key entry.version extent result)) → Adds old new before now (DraftsRow shelf entry extent kept result)
