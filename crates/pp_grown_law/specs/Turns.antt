-- A turn as one: where its keeping begins what grew is noted, and each entry has the fields that are kept of them; behind it nothing is to be
-- kept, up to the next event (ours).
--
-- Where the premises come from: clients stand in the order of their numbers, and exchanges are numbered, where the turn shows the law's state
-- (Numbered). Where a keeping begins the turn stands so by TurnsStandToKeep of `pp_joints_law`, and it leads on by KeepingsLeadOn of `pp_keeps_law`.
use Rattle.std.specs.Prelude.{◌≡◌, ℕ, false, List}
use Rattle.pp_desk.specs.declared.desk.Desk.{Desk}
use Rattle.pp_flow.specs.Changes.{numbers as flow_numbers}
use Rattle.pp_keeping.specs.Keeping.{Keeping as Kept, keeping}
use Rattle.pp_keeps_law.specs.All.{HasGrown, IsDoneWith}
use Rattle.pp_keeps_law.specs.Stands.{StandsToKeep}
use Rattle.pp_law.specs.State.{State}
use Rattle.pp_proxy.specs.Awaiting.{Awaits, Rests}
use Rattle.pp_proxy.specs.Events.{TakesEvent}
use Rattle.pp_proxy.specs.Moving.{Turning, at_desk}
use Rattle.pp_shelf_law.specs.AsKept.{EachIsAsKept}
use Rattle.pp_state.specs.Ends.{AreInOrder, AreSeated}
use Rattle.pp_world.specs.declared.event.Event.{Event}
use Rattle.pp_world.specs.declared.event.Wants.{Wants}
use Rattle.pp_grown_law.specs.Grown.{HasNothingToKeep}
use Rattle.pp_grown_law.specs.Numbered.{AreNumbered}
use Rattle.pp_grown_law.specs.Reads.{StandsToGrow}

-- what `keep` of pp_keeping works on
abbrev pub kept_at : Turning → Kept
kept_at x = keeping x.moving.desk.state x.shelf x.log x.faults

-- what is carried from one keeping to the next event
pub record CarriesKept (x : Turning) : Type 0 where
  pub nothing : HasNothingToKeep x.moving.desk.state x.shelf
  pub fields : EachIsAsKept x.shelf

-- from one event to the keeping of its turn: LeavesAndKeeps of `pp_turn_law` asks for what grew
pub record MayKeep (x : Turning) : Type 0 where
  pub grown : HasGrown (kept_at x)
  pub fields : EachIsAsKept x.shelf

abbrev pub TurnsMayKeep : Type 0
TurnsMayKeep = (event : Event) (x y : Turning) (it : TakesEvent event x y) → AreSeated x.moving.desk.state → AreSeated it.handled.moving.desk.state → AreInOrder (flow_numbers it.handled.moving.desk.state.flow.waiting) → StandsToGrow x → CarriesKept x → MayKeep it.left

-- from there to the end of the turn, where this life did not go astray by what it kept
pub record HasKeptAll (number : ℕ → ℕ) (x y : Turning) : Type 0 where
  pub before : State
  pub after : State
  pub stands : StandsToKeep number x.moving.desk.state x.shelf before
  pub done : IsDoneWith number (kept_at x) (kept_at y) before after
  pub straight : y.moving.desk.state.is_astray ≡ false

abbrev pub TurnsCarryKept : Type 0
TurnsCarryKept = (number : ℕ → ℕ) (event : Event) (x y : Turning) (it : TakesEvent event x y) → MayKeep it.left → HasKeptAll number it.left it.kept → AreSeated it.kept.moving.desk.state → AreNumbered it.kept.moving.desk.state.flow → CarriesKept y

-- and over the wait
abbrev pub WaitsCarryKept : Type 0
WaitsCarryKept = (before : List ℕ) (w : Wants) (clients : ℕ) (x : Turning) (e f : Desk) → Awaits before w clients x.moving.desk e → Rests w clients e f → CarriesKept x → CarriesKept (at_desk f x)
