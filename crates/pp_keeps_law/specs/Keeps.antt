-- What one step of the keeping adds to the log leads on from each state in which the turn stands so (ours).
use Rattle.std.specs.Prelude.{◌≡◌, ℕ, Bool, []}
use Rattle.pp_keeping.specs.Keeping.{KeepsRun, Keeping as Kept, TakesName}
use Rattle.pp_law.specs.State.{State}
use Rattle.pp_obeys.specs.Moves.{Adds, MovesAll}
use Rattle.pp_objects.specs.declared.id.ObjectId.{ObjectId}
use Rattle.pp_state.specs.declared.state.State.{State as Turn}
use Rattle.pp_store.specs.Kept.{KeptMap}
use Rattle.pp_world.specs.Log.{Log}
use Rattle.pp_keeps_law.specs.Stands.{StandsToKeep}

-- with what the other has of the disk
abbrev pub on_disk : State → State → State
on_disk t s = record s {
  acknowledged = t.acknowledged;
  disk = t.disk;
  failures = t.failures;
  entries = t.entries;
  closed_names = t.closed_names;
  under_way = t.under_way;
  displaced = t.displaced;
  has_lost_draft = t.has_lost_draft;
  agenda = t.agenda;
}

-- the turn stands so behind it, and all that is not of the disk is as it was
pub record HasKept (number : ℕ → ℕ) (p : Turn) (shelf : KeptMap) (s t : State) : Type 0 where
  pub stands : StandsToKeep number p shelf t
  pub rest : t ≡ on_disk t s

-- each of them may come where it comes, and they lead to such a state
abbrev pub LeadsOn : Kept → Kept → Log → Type 0
LeadsOn x y hs = (number : ℕ → ℕ) (s : State) → StandsToKeep number x.state x.outside.shelf s → MovesAll (HasKept number y.state y.outside.shelf s) hs s

-- happenings of which this holds came to the log, with the failures that the outside counted
abbrev pub AddsTo : Kept → Kept → (Log → Type 0) → Type 0
AddsTo x y R = Adds x.outside.log y.outside.log x.outside.faults y.outside.faults R

-- the entry under the last of the outdated names is noted as gone, and taken away
abbrev pub TakingsLeadOn : Type 0
TakingsLeadOn = (x y : Kept) → TakesName x y → AddsTo x y (LeadsOn x y)

-- the next run of an instance is drafted, or sealed, and noted; where no name is outdated
abbrev pub RunsLeadOn : Type 0
RunsLeadOn = (x y : Kept) (id : ObjectId) (room : ℕ) (goes : Bool) → KeepsRun id room x y goes → AddsTo x y (λ hs. x.state.cache.outdated ≡ [] → LeadsOn x y hs)
