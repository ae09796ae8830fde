-- What is whole of each instance is kept in the turn in which it came (ours): so where a keeping begins, each that has more to keep grew in this
-- turn, and is noted.
--
-- Where the premises come from: IsDoneWith of `pp_keeps_law` is where a keeping leads (KeepingsLeadOn); that asks without a place stand in the
-- order of their beginnings, as in Leaving.
use Rattle.std.specs.Prelude.{◌≡◌, ◌≤◌, ℕ, false, length, List, [], Option}
use Rattle.pp_cache.specs.Bounds.{IsBounded}
use Rattle.pp_desk.specs.declared.desk.Desk.{Desk}
use Rattle.pp_flow.specs.Changes.{numbers as flow_numbers}
use Rattle.pp_keeping.specs.Keeping.{KeepsAll, Keeping as Kept, keeping}
use Rattle.pp_keeps_law.specs.All.{AreAmong, HasGrown, IsDoneWith}
use Rattle.pp_law.specs.State.{State}
use Rattle.pp_proxy.specs.Awaiting.{Awaits, Rests}
use Rattle.pp_proxy.specs.Handling.{Handles}
use Rattle.pp_proxy.specs.Leaving.{Leaves}
use Rattle.pp_proxy.specs.Moving.{Moving, Turning}
use Rattle.pp_proxy.specs.Settling.{Settles}
use Rattle.pp_state.specs.Ends.{AreInOrder}
use Rattle.pp_state.specs.declared.state.State.{State as Turn}
use Rattle.pp_store.specs.Kept.{KeptMap}
use Rattle.pp_world.specs.Log.{Log}
use Rattle.pp_world.specs.declared.event.Event.{Event}
use Rattle.pp_world.specs.declared.event.Wants.{Wants}
use Rattle.pp_grown_law.specs.Handled.{KeepsWholeChunks, reads_origin}
use Rattle.pp_grown_law.specs.Left.{HasNone}
use Rattle.pp_grown_law.specs.Numbered.{AreNumbered}

-- no run of an instance is full and not kept, and none is noted
pub record HasNothingToKeep (p : Turn) (shelf : KeptMap) : Type 0 where
  pub none : HasNone p shelf
  pub grown : p.cache.grown ≡ []

-- each of which one is, is noted, and they are few
pub record NotesGrown (p : Turn) (shelf : KeptMap) : Type 0 where
  pub few : length p.cache.grown ≤ 16
  pub all : AreAmong p.cache.grown p shelf

-- ---- from one keeping to the next event

-- where this life did not go astray
abbrev pub KeepingsLeaveNothing : Type 0
KeepingsLeaveNothing = (number : ℕ → ℕ) (room : ℕ) (x y : Kept) (s t : State) → KeepsAll room x y → IsDoneWith number x y s t → y.state.is_astray ≡ false → HasNothingToKeep y.state y.outside.shelf

abbrev pub SettlingsLeaveNothing : Type 0
SettlingsLeaveNothing = (shelf : KeptMap) (x y : Moving) (log : Log) → IsBounded x.desk.state.cache → AreNumbered x.desk.state.flow → Settles shelf x log y → HasNothingToKeep x.desk.state shelf → HasNothingToKeep y.desk.state shelf

abbrev pub WaitsLeaveNothing : Type 0
WaitsLeaveNothing = (shelf : KeptMap) (before : List ℕ) (w : Wants) (clients : ℕ) (d e f : Desk) → Awaits before w clients d e → Rests w clients e f → HasNothingToKeep d.state shelf → HasNothingToKeep f.state shelf

-- ---- over the event to the next keeping

abbrev pub EventsNoteGrown : Type 0
EventsNoteGrown = (event : Event) (x y : Turning) → reads_origin event x.moving.desk.state ≡ false → KeepsWholeChunks x.shelf → Handles event x y → HasNothingToKeep x.moving.desk.state x.shelf → NotesGrown y.moving.desk.state y.shelf

-- what leaves memory leaves it
abbrev pub LeavingsNoteGrown : Type 0
LeavingsNoteGrown = (shelf : KeptMap) (x y : Moving) (log : Log) → AreInOrder (flow_numbers x.desk.state.flow.waiting) → Leaves x log y → NotesGrown x.desk.state shelf → NotesGrown y.desk.state shelf

-- there the keeping begins
abbrev pub NotedOnesHaveGrown : Type 0
NotedOnesHaveGrown = (p : Turn) (shelf : KeptMap) (log : Option Log) (faults : ℕ) → NotesGrown p shelf → HasGrown (keeping p shelf log faults)
