-- Of rows that left memory each is noted as the turn leaves its event (ours): from there to the next wait none is left to be, and where an event
-- is awaited the program and the law know alike of what has to leave memory, which is nothing.
use Rattle.std.specs.Prelude.{◌≡◌, ℕ, List, []}
use Rattle.pp_desk.specs.declared.desk.Desk.{Desk}
use Rattle.pp_law.specs.State.{State}
use Rattle.pp_law.specs.Turn.{rest_with}
use Rattle.pp_proxy.specs.Awaiting.{Awaits, Rests}
use Rattle.pp_proxy.specs.Events.{Keeps}
use Rattle.pp_proxy.specs.Leaving.{Leaves}
use Rattle.pp_proxy.specs.Moving.{Moving, Turning}
use Rattle.pp_proxy.specs.Settling.{Settles}
use Rattle.pp_store.specs.Kept.{KeptMap}
use Rattle.pp_world.specs.Log.{Log}
use Rattle.pp_world.specs.declared.event.Wants.{Wants}

abbrev pub NoneIsUnnoted : Desk → Type 0
NoneIsUnnoted d = d.state.forgotten ≡ []

abbrev pub LeavingsNoteAll : Type 0
LeavingsNoteAll = (x y : Moving) (log : Log) → Leaves x log y → NoneIsUnnoted y.desk

abbrev pub KeepingsForgetNone : Type 0
KeepingsForgetNone = (x y : Turning) → Keeps x y → NoneIsUnnoted x.moving.desk → NoneIsUnnoted y.moving.desk

abbrev pub SettlingsForgetNone : Type 0
SettlingsForgetNone = (shelf : KeptMap) (x y : Moving) (log : Log) → Settles shelf x log y → NoneIsUnnoted x.desk → NoneIsUnnoted y.desk

-- as `StandsBefore` of Behind has both
pub record KnowsAlike (d : Desk) (s : State) : Type 0 where
  pub forgotten : d.state.forgotten ≡ s.forgotten
  pub evicting : d.state.is_evicting ≡ s.is_evicting

abbrev pub WaitsForgetNone : Type 0
WaitsForgetNone = (before : List ℕ) (w : Wants) (clients : ℕ) (d e f : Desk) (s : State) → Awaits before w clients d e → Rests w clients e f → NoneIsUnnoted d → KnowsAlike f (rest_with w s)
