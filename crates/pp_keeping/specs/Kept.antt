-- What is taken off the disk by its name, what is noted of it, and what memory knows of it then (ours).
use Rattle.std.specs.Prelude.{◌≡◌, ◌≤◌, ℕ, if◌then◌else◌, IfNone, IfSome, OnErr, List, [], ◌∷◌, length, nat_le, is_ok, is_some, Option, Some, None, Result, option_map}
use Rattle.pp_cache.specs.Memory.{Memory}
use Rattle.pp_cache.specs.OnDisk.{kept_to}
use Rattle.pp_gate.specs.Runs.{RunsOps}
use Rattle.pp_objects.specs.Instances.{id_of, row_of}
use Rattle.pp_objects.specs.declared.id.ObjectId.{ObjectId}
use Rattle.pp_store.specs.Changes.{withdrawn_after}
use Rattle.pp_store.specs.Kept.{KeptMap, kept_of, kept_under}
use Rattle.pp_target.specs.Name.{name_of}
use Rattle.pp_world.specs.Log.{AppendsAll, Log, Rises}
use Rattle.pp_world.specs.declared.disk.DiskFault.{DiskFault}
use Rattle.pp_world.specs.declared.happening.Happening.TheVariants.{Noted}
use Rattle.pp_world.specs.declared.note.Remark.TheVariants.{Gone}
use Rattle.pp_world.specs.declared.op.DiskOp.TheVariants.{Remove}

-- ---- what calls of the disk change: what is kept, and what the outside tells and counts

pub record Outside : Type 0 where
  pub shelf : KeptMap
  pub log : Option Log
  pub faults : ℕ

abbrev pub outside : KeptMap → Option Log → ℕ → Outside
outside shelf log faults = record { shelf = shelf; log = log; faults = faults }

-- nothing is done
pub record IsStill (x y : Outside) : Type 0 where
  pub shelf : y.shelf ≡ x.shelf
  pub told : y.log ≡ x.log
  pub count : x.faults ≤ y.faults

-- these are put on record
pub record Notes (notes : Log) (x y : Outside) : Type 0 where
  pub shelf : y.shelf ≡ x.shelf
  pub told : AppendsAll x.log y.log (λ l. notes)
  pub count : x.faults ≤ y.faults

-- ---- the entry of a key is withdrawn

-- where it is kept; where the disk fails, its name is closed
pub record Withdraws (key : List ℕ) (answer : Option (Result (Unit {0}) DiskFault)) (x y : Outside) : Type 0 where
  pub answered : is_some answer ≡ is_some (kept_of key x.shelf)
  pub still : IfNone answer (IsStill x y)
  pub map : IfSome answer (λ r. y.shelf ≡ withdrawn_after r key x.shelf)
  pub ops : IfSome answer (λ r. RunsOps x.log y.log (Remove (name_of key) ∷ []) (is_ok r))
  pub cause : IfSome answer (λ r. OnErr r (Rises y.log x.faults y.faults))
  pub count : x.faults ≤ y.faults

-- ---- the entry under a name is taken away

-- no key is longer than there is room for; one that were is taken for the empty one
abbrev pub with_room : List ℕ → List ℕ
with_room key = if nat_le (length key) 8192 then key else []

abbrev pub key_under : List ℕ → KeptMap → Option (List ℕ)
key_under name store = option_map (λ kept. with_room kept.entry.key) (kept_under name store)

-- it is noted as gone before
pub record TakesKey (key : List ℕ) (x y : Outside) : Type 0 where
  pub noted : Outside
  pub answer : Option (Result (Unit {0}) DiskFault)
  pub notes : Notes (Noted (Gone key) ∷ []) x noted
  pub withdraws : Withdraws key answer noted y

abbrev pub TakesAway : Option (List ℕ) → Outside → Outside → Type 0
TakesAway None x y = IsStill x y
TakesAway (Some key) x y = TakesKey key x y

-- ---- nothing is kept of the row of its key: another key may have taken its name

abbrev pub with_none_kept : Option ObjectId → Memory → Memory
with_none_kept None m = m
with_none_kept (Some id) m = record m { extents = kept_to id 0 m.extents }

abbrev pub unkept : List ℕ → Memory → Memory
unkept key m = with_none_kept (option_map id_of (row_of key m.instances)) m

abbrev pub unkept_of : Option (List ℕ) → Memory → Memory
unkept_of None m = m
unkept_of (Some key) m = unkept key m
