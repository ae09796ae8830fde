-- The entry of a row is drafted, and named; where it is drafted with all of its body, that is noted (ours).
use Rattle.std.specs.Prelude.{◌≡◌, ℕ, true, false, ◌==◌, [], ◌∷◌, ◌++◌, None, Result, Ok, Err}
use Rattle.pp_gate.specs.Gate.{draft_ops, publish_ops}
use Rattle.pp_gate.specs.Runs.{Ran}
use Rattle.pp_law.specs.Lists.{Bytes}
use Rattle.pp_law.specs.State.{State, Instance, no_agenda}
use Rattle.pp_law.specs.Store.{close_name, drafted_with, lose_draft, may_draft, new_entry, note_kept, run_bytes}
use Rattle.pp_entry.specs.Texts.{chunks_of}
use Rattle.pp_laws.specs.Runs.{IsIn}
use Rattle.pp_objects.specs.Kept.{kept_of}
use Rattle.pp_store.specs.Answers.{file_with}
use Rattle.pp_store.specs.Changes.{entry_with, kept_after}
use Rattle.pp_store.specs.Kept.{KeptMap}
use Rattle.pp_store.specs.declared.faults.KeepFault.{KeepFault}
use Rattle.pp_store.specs.declared.faults.KeepFault.TheVariants.{Closed, Full, TooLong, NoDraft, DiskFault, OutOfMemory}
use Rattle.pp_target.specs.Name.{name_of}
use Rattle.pp_valid.specs.declared.version.Version.{Version}
use Rattle.pp_world.specs.Log.{Log}
use Rattle.pp_world.specs.declared.happening.Happening.TheVariants.{Began, Did, Noted}
use Rattle.pp_world.specs.declared.note.Remark.TheVariants.{Kept as KeptNote}
use Rattle.pp_world.specs.declared.op.DiskOp.TheVariants.{Draft, SyncDraft, Publish}
use Rattle.pp_shelf_law.specs.Kept.{HasOneRow}
use Rattle.pp_shelf_law.specs.Runs.{ran}
use Rattle.pp_shelf_law.specs.Shelf.{IsResting}
use Rattle.pp_shelf_law.specs.Takings.{LeadsTo}

-- a row in memory of which a draft is due, with the bytes of its body that it keeps. Its fields are those that are kept of them
pub record IsToDraft (s : State) (x : Instance) (kept : Bytes) : Type 0 where
  pub there : IsIn x s.instances
  pub may : may_draft s x ≡ true
  pub fields : kept_of x.fields x.times ≡ x.fields
  pub kept_is : kept ≡ run_bytes (chunks_of (drafted_with s x)) x.id s.chunks 0

-- the operations of a call that keeps an entry: `RunsKeep` of pp_store
abbrev pub RanKeep : Bytes → Bytes → Result (Unit {0}) KeepFault → Log → Type 0
RanKeep name file (Ok done) hs = Ran (publish_ops name file) true hs
RanKeep name file (Err Closed) hs = hs ≡ []
RanKeep name file (Err Full) hs = hs ≡ []
RanKeep name file (Err TooLong) hs = hs ≡ []
RanKeep name file (Err NoDraft) hs = Ran (draft_ops file) false hs
RanKeep name file (Err DiskFault) hs =
    hs ≡ Began (Draft file) ∷ Did (Draft file) true ∷ Began SyncDraft ∷ Did SyncDraft true ∷ Began (Publish name) ∷ Did (Publish name) false ∷ []
RanKeep name file (Err OutOfMemory) hs = hs ≡ []

-- what is noted behind it
abbrev pub draft_notes : Bytes → Version → ℕ → Result (Unit {0}) KeepFault → Log
draft_notes key version extent (Ok done) = elim (extent == 0) [ true ↦ [] | false ↦ Noted (KeptNote key version.tag version.length extent) ∷ [] ]
draft_notes key version extent (Err fault) = []

-- it is an entry
abbrev pub with_draft : Instance → ℕ → Log → State → State
with_draft x extent hs s = record s { disk = s.disk ++ hs; under_way = None; agenda = record { name = name_of x.key; todo = [] }; entries = s.entries ++ new_entry x extent ∷ [] }

abbrev pub with_draft_noted : Instance → ℕ → Log → State → State
with_draft_noted x extent hs s = elim (extent == 0) [ true ↦ with_draft x extent hs s | false ↦ note_kept x.key extent (with_draft x extent hs s) ]

abbrev pub drafted : Instance → ℕ → Result (Unit {0}) KeepFault → Log → State → State
drafted x extent (Ok done) hs s = with_draft_noted x extent hs s
drafted x extent (Err Closed) hs s = s
drafted x extent (Err Full) hs s = s
drafted x extent (Err TooLong) hs s = s
drafted x extent (Err NoDraft) hs s = lose_draft (ran hs no_agenda s)
drafted x extent (Err DiskFault) hs s = close_name (name_of x.key) (ran hs no_agenda s)
drafted x extent (Err OutOfMemory) hs s = s

abbrev pub DraftsAreTheLaws : Type 0
DraftsAreTheLaws = (shelf : KeptMap) (s : State) (x : Instance) (kept : Bytes) (result : Result (Unit {0}) KeepFault) (hs : Log) → IsResting shelf s → HasOneRow s → IsToDraft s x kept
    → RanKeep (name_of x.key) (file_with (entry_with x.key x.version x.fields x.times) kept) result hs
    → LeadsTo (hs ++ draft_notes x.key x.version (drafted_with s x) result) s (drafted x (drafted_with s x) result hs s) (kept_after result (entry_with x.key x.version x.fields x.times) (drafted_with s x) shelf)
