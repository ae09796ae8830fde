-- All that is taken away and kept in a turn, one behind the other, leads on to where nothing is left to do for the disk (ours).
use Rattle.std.specs.Prelude.{◌≡◌, ◌≤◌, ℕ, true, length, List, Some}
use Rattle.std.specs.List.{list_any}
use Rattle.pp_keeping.specs.Keeping.{KeepsAll, Keeping as Kept}
use Rattle.pp_law.specs.State.{State}
use Rattle.pp_law.specs.Store.{is_done_on_disk}
use Rattle.pp_obeys.specs.Moves.{MovesAll}
use Rattle.pp_objects.specs.Instances.{Instance, is_same_id}
use Rattle.pp_objects.specs.declared.id.ObjectId.{ObjectId}
use Rattle.pp_state.specs.Bringing.{instance_of}
use Rattle.pp_state.specs.declared.state.State.{State as Turn}
use Rattle.pp_store.specs.Kept.{Kept as KeptRow, KeptMap}
use Rattle.pp_keeps_law.specs.Keeps.{AddsTo, HasKept}
use Rattle.pp_keeps_law.specs.Plans.{IsNextRun}
use Rattle.pp_keeps_law.specs.Stands.{StandsToKeep}

-- a run of an instance is full behind what is kept of it, and its body is no longer than may be kept
pub record HasNextRun (p : Turn) (shelf : KeptMap) (id : ObjectId) (i : Instance) : Type 0 where
  pub kept : KeptRow
  pub len : ℕ
  pub next : IsNextRun p id i shelf kept len
  pub body : i.version.length ≤ 67108864

-- each of which one is, is among these
abbrev pub AreAmong : List ObjectId → Turn → KeptMap → Type 0
AreAmong ids p shelf = (id : ObjectId) (i : Instance) → instance_of id p.cache.instances ≡ Some i → HasNextRun p shelf id i → list_any (is_same_id id) ids ≡ true

pub record HasGrown (x : Kept) : Type 0 where
  -- `grown_by` notes no more
  pub few : length x.state.cache.grown ≤ 16
  -- what was whole before this turn was sealed in the turn in which it came (`what_grew_is_noted` of `pp_grown_law`)
  pub all : AreAmong x.state.cache.grown x.state x.outside.shelf

-- nothing came into memory or left it
pub record IsSameBody (p q : Turn) : Type 0 where
  pub run : q.run ≡ p.run
  pub instances : q.cache.instances ≡ p.cache.instances
  pub lives : q.cache.lives ≡ p.cache.lives
  pub chunks : q.cache.chunks ≡ p.cache.chunks

-- the turn stands so behind it, also where the program says that it went astray: no loop ended with anything left; all that is not of
-- the disk is as it was, and its phase may be left
pub record IsDoneWith (number : ℕ → ℕ) (x y : Kept) (s t : State) : Type 0 where
  pub kept : HasKept number y.state y.outside.shelf s t
  pub same : IsSameBody x.state y.state
  pub done : is_done_on_disk t ≡ true

abbrev pub KeepingsLeadOn : Type 0
KeepingsLeadOn = (room : ℕ) (x y : Kept) → 286720 ≤ room → KeepsAll room x y → AddsTo x y (λ hs. (number : ℕ → ℕ) (s : State) → StandsToKeep number x.state x.outside.shelf s → HasGrown x → MovesAll (IsDoneWith number x y s) hs s)
