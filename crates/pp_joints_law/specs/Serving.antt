-- From the first decision of a turn to its wait (ours).
use Rattle.std.specs.Prelude.{◌≡◌, ℕ, true, List}
use Rattle.pp_desk.specs.declared.desk.Desk.{Desk}
use Rattle.pp_law.specs.Permits.{permits_waits}
use Rattle.pp_law.specs.State.{State, Term}
use Rattle.pp_proxy.specs.Moving.{Moving}
use Rattle.pp_proxy.specs.Settling.{Settles}
use Rattle.pp_rounds_law.specs.Serves.{HasServed}
use Rattle.pp_state.specs.Ends.{AreInOrder}
use Rattle.pp_store.specs.Kept.{KeptMap}
use Rattle.pp_waits_law.specs.Waits.{MayWait, OriginsAreApart}
use Rattle.pp_world.specs.Log.{Log}
use Rattle.pp_world.specs.declared.event.Wants.{Wants}

-- ---- the wait

-- where decisions and rounds end, the turn may wait, by wants that the law permits (Served.`TurnsEnd` of `pp_laws_served`). What was read at the
-- last wait is of clients alone (`TurnsOn` of pp_proxy: its `read`)
abbrev pub ServedOnesMayWait : Type 0
ServedOnesMayWait = (terms : List Term) (before : Log) (shelf : KeptMap) (y : Moving) (log : Log) (s : State) (read : List ℕ) (w : Wants) (it : HasServed terms before shelf y log s) → permits_waits it.then w ≡ true → AreInOrder read → OriginsAreApart read y.desk
    → MayWait it.number read w y.desk it.then

-- ---- what stays

-- clients, exchanges, what is in memory and connections alone change, and who is looked at
abbrev pub IsButForWork : Desk → Desk → Type 0
IsButForWork x y = record y {
  state = record y.state { seats = x.state.seats; awake = x.state.awake; flow = x.state.flow; cache = x.state.cache; refused = x.state.refused; is_astray = x.state.is_astray };
  peers = x.peers;
  turned_away = x.turned_away;
} ≡ x

-- settings, the clock, what is still to be noted, and all that is read into or laid out in, stay from the first decision on
abbrev pub SettlesKeepWhatIsSet : Type 0
SettlesKeepWhatIsSet = (shelf : KeptMap) (x y : Moving) (log : Log) → Settles shelf x log y → IsButForWork x.desk y.desk
