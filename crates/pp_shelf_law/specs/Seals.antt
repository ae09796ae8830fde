-- A run of a row is sealed, and noted (ours).
use Rattle.std.specs.Prelude.{◌≡◌, ℕ, ◌+◌, ◌/◌, ◌&&◌, true, IfOk, is_ok, [], ◌∷◌, ◌++◌, length, Some, Result, Ok, Err}
use Rattle.pp_gate.specs.Runs.{Ran}
use Rattle.pp_law.specs.Chunks.{chunk_len}
use Rattle.pp_law.specs.Lists.{Bytes}
use Rattle.pp_law.specs.State.{State, Entry, Instance, no_agenda}
use Rattle.pp_law.specs.Store.{close_name, is_full_run, may_seal, note_kept, remove_entry, run_bytes, run_from}
use Rattle.pp_law.specs.Table.{kept_row}
use Rattle.pp_laws.specs.Runs.{IsIn}
use Rattle.pp_store.specs.Answers.{extend_ops}
use Rattle.pp_store.specs.Changes.{extended_after}
use Rattle.pp_store.specs.Kept.{Kept, KeptMap, kept_of}
use Rattle.pp_valid.specs.declared.version.Version.{Version}
use Rattle.pp_world.specs.Log.{Log}
use Rattle.pp_world.specs.declared.disk.DiskFault.{DiskFault}
use Rattle.pp_world.specs.declared.happening.Happening.{Happening}
use Rattle.pp_world.specs.declared.happening.Happening.TheVariants.{Noted}
use Rattle.pp_world.specs.declared.note.Remark.TheVariants.{Gone, Kept as KeptNote}
use Rattle.pp_shelf_law.specs.Kept.{HasOneRow}
use Rattle.pp_shelf_law.specs.Runs.{ran}
use Rattle.pp_shelf_law.specs.Shelf.{IsResting}
use Rattle.pp_shelf_law.specs.Takings.{LeadsTo}

-- a row in memory whose entry is kept, and the bytes of the run that is due
pub record IsToSeal (s : State) (x : Instance) (e : Entry) (bytes : Bytes) : Type 0 where
  pub there : IsIn x s.instances
  pub kept : kept_row s x.key ≡ Some e
  pub due : (may_seal s x e && is_full_run s x e (run_from s x e)) ≡ true
  pub bytes_are : bytes ≡ run_bytes (run_from s x e) x.id s.chunks (e.extent / chunk_len)

-- what is noted behind it: how far it is kept, or that its entry is gone
abbrev pub seal_note : Bytes → Version → Result ℕ DiskFault → Happening
seal_note key version (Ok extent) = Noted (KeptNote key version.tag version.length extent)
seal_note key version (Err fault) = Noted (Gone key)

abbrev pub sealed : Instance → Entry → Result ℕ DiskFault → Log → State → State
sealed x e (Ok extent) hs s = note_kept x.key extent (ran hs (record { name = e.name; todo = [] }) s)
sealed x e (Err fault) hs s = remove_entry e (close_name e.name (ran hs no_agenda s))

abbrev pub SealsAreTheLaws : Type 0
SealsAreTheLaws = (shelf : KeptMap) (s : State) (x : Instance) (e : Entry) (kept : Kept) (bytes : Bytes) (result : Result ℕ DiskFault) (hs : Log) → IsResting shelf s → HasOneRow s → IsToSeal s x e bytes → kept_of x.key shelf ≡ Some kept
    → Ran (extend_ops kept bytes) (is_ok result) hs → IfOk result (λ extent. extent ≡ kept.extent + length bytes)
    → LeadsTo (hs ++ seal_note x.key x.version result ∷ []) s (sealed x e result hs s) (extended_after result x.key shelf)
