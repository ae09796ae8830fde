-- An entry that stands no more is noted as gone, and taken away (ours).
use Rattle.std.specs.Prelude.{◌≡◌, Bool, true, false, [], ◌∷◌, find, is_ok, Some, Result}
use Rattle.pp_gate.specs.Runs.{Ran}
use Rattle.pp_law.specs.Lists.{Bytes}
use Rattle.pp_law.specs.State.{State, Entry, no_agenda}
use Rattle.pp_law.specs.Store.{close_name, is_closed, is_gone, remove_entry}
use Rattle.pp_law.specs.Table.{is_entry_of}
use Rattle.pp_obeys.specs.Moves.{Leads}
use Rattle.pp_store.specs.Changes.{withdrawn_after}
use Rattle.pp_store.specs.Kept.{KeptMap}
use Rattle.pp_target.specs.Name.{name_of}
use Rattle.pp_world.specs.Log.{Log}
use Rattle.pp_world.specs.declared.disk.DiskFault.{DiskFault}
use Rattle.pp_world.specs.declared.happening.Happening.TheVariants.{Noted}
use Rattle.pp_world.specs.declared.note.Remark.TheVariants.{Gone}
use Rattle.pp_world.specs.declared.op.DiskOp.TheVariants.{Remove}
use Rattle.pp_shelf_law.specs.Runs.{ran}
use Rattle.pp_shelf_law.specs.Shelf.{IsResting}

-- each may come where it comes, they lead there, and the shelf shows it
pub record LeadsTo (hs : Log) (s t : State) (shelf : KeptMap) : Type 0 where
  pub leads : Leads hs s t
  pub rests : IsResting shelf t

-- the entry is out, and its file removed; or it may be there still, and its name is closed
abbrev pub taken_away : Bool → Log → Entry → State → State
taken_away true hs e s = ran hs (record { name = e.name; todo = [] }) (remove_entry e s)
taken_away false hs e s = close_name e.name (ran hs no_agenda (remove_entry e s))

-- the entry of a key that is gone, under a name that is not closed
pub record IsToGo (s : State) (key : Bytes) (e : Entry) : Type 0 where
  pub there : find (is_entry_of key) s.entries ≡ Some e
  pub gone : is_gone s e ≡ true
  pub unclosed : is_closed s e.name ≡ false

-- it is noted, and its file is removed
abbrev pub WithdrawalsAreTheLaws : Type 0
WithdrawalsAreTheLaws = (shelf : KeptMap) (s : State) (key : Bytes) (e : Entry) (result : Result (Unit {0}) DiskFault) (hs : Log) → IsResting shelf s → IsToGo s key e → Ran (Remove (name_of key) ∷ []) (is_ok result) hs
    → LeadsTo (Noted (Gone key) ∷ hs) s (taken_away (is_ok result) hs e s) (withdrawn_after result key shelf)

-- the entry of a key whose name is closed is gone already, and is noted alone
abbrev pub LossesAreTheLaws : Type 0
LossesAreTheLaws = (shelf : KeptMap) (s : State) (key : Bytes) (e : Entry) → IsResting shelf s → find (is_entry_of key) s.entries ≡ Some e → is_closed s e.name ≡ true
    → LeadsTo (Noted (Gone key) ∷ []) s (remove_entry e s) shelf
