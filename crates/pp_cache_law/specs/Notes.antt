-- What is noted of the disk, in the cache and in the table of the law alike.
use Rattle.std.specs.Prelude.{◌≡◌, ◌<◌, ◌⊎◌, ℕ, true, false, List, ◌∷◌, length, Some, None}
use Rattle.pp_cache.specs.Memory.{Memory}
use Rattle.pp_cache.specs.OnDisk.{kept_to}
use Rattle.pp_law.specs.Lists.{Bytes}
use Rattle.pp_law.specs.State.{State, Entry, Instance as Known, Todo, Enter}
use Rattle.pp_law.specs.Store.{enter_next, note_gone, note_kept}
use Rattle.pp_law.specs.Table.{instance, kept_row, row}
use Rattle.pp_objects.specs.Instances.{is_there}
use Rattle.pp_objects.specs.declared.id.ObjectId.{ObjectId}
use Rattle.pp_cache_law.specs.Tables.{OfCaches, ShowsCache}

-- a row that is there, in a slot of which the cache tells how far it is kept
pub record IsRowThere (number : ℕ → ℕ) (m : Memory) (s : State) (id : ObjectId) (x : Known) : Type 0 where
  pub there : is_there id m.instances ≡ true
  pub known : instance s (number id.life) ≡ Some x
  pub row : x.is_retired ≡ false
  pub slot : id.slot < length m.extents

-- its first entry is there
abbrev pub DraftsAreTheLaws : Type 0
DraftsAreTheLaws = OfCaches (λ number m s. (id : ObjectId) (x : Known) (e : Entry) (todo : List Todo) → IsRowThere number m s id x → s.agenda.todo ≡ Enter e ∷ todo → e.key ≡ x.key → e.is_stale ≡ false → kept_row s x.key ≡ None
    → ShowsCache number (record m { extents = kept_to id e.extent m.extents }) (enter_next s))

-- it is kept so far
abbrev pub KeepingsAreTheLaws : Type 0
KeepingsAreTheLaws = OfCaches (λ number m s. (id : ObjectId) (x : Known) (e : Entry) (extent : ℕ) → IsRowThere number m s id x → kept_row s x.key ≡ Some e
    → ShowsCache number (record m { extents = kept_to id extent m.extents }) (note_kept x.key extent s))

-- its entry is gone
abbrev pub LossesAreTheLaws : Type 0
LossesAreTheLaws = OfCaches (λ number m s. (id : ObjectId) (x : Known) → IsRowThere number m s id x → ShowsCache number (record m { extents = kept_to id 0 m.extents }) (note_gone x.key s))

-- an entry that stands for no row, or for none in memory, is gone
abbrev pub RemovalsAreTheLaws : Type 0
RemovalsAreTheLaws = OfCaches (λ number m s. (key : Bytes) → (kept_row s key ≡ None) ⊎ (row s key ≡ None) → ShowsCache number m (note_gone key s))
