-- Each turn has its event, as nobody is turned away at the wait; and where a turn ended, or before the first, the log may end (ours): so where as
-- many turns were made as were set.
use Rattle.std.specs.Prelude.{◌≡◌, ℕ, true, List, Some}
use Rattle.pp_conf.specs.declared.conf.Conf.{Conf}
use Rattle.pp_joints_law.specs.Opened.{BeginsWith}
use Rattle.pp_law.specs.Permits.{is_over}
use Rattle.pp_law.specs.State.{State, Term}
use Rattle.pp_obeys.specs.Obeys.{Life}
use Rattle.pp_proxy.specs.Awaiting.{Standing, TurnsOn}
use Rattle.pp_proxy.specs.declared.proxy.Proxy.{Proxy}
use Rattle.pp_proxy.specs.declared.proxy.Turn.{Turn}
use Rattle.pp_store.specs.Kept.{KeptMap}
use Rattle.pp_turn_law.specs.Waited.{HasWaitedOn, StandsAtWait}
use Rattle.pp_world.specs.Log.{Log}
use Rattle.pp_world.specs.declared.event.Event.{Event}

-- ---- the wait

-- there is a connection left for each client that comes
abbrev pub TurnsHaveEvents : Type 0
TurnsHaveEvents = (life : Life) (budget : ℕ) (log : Log) (result : Turn) (x y : Standing) (number : ℕ → ℕ) (s : State) (turns : TurnsOn result x y) → HasWaitedOn life budget log x turns.wants turns.clients turns.rested number s → (event : Event) × (turns.event ≡ Some event)

-- ---- the end of the log

abbrev pub TurnsMayBeTheLast : Type 0
TurnsMayBeTheLast = (life : Life) (budget : ℕ) (log : Log) (x : Standing) (s : State) → StandsAtWait life budget log x s → is_over s ≡ true

abbrev pub NoTurnNeedBeMade : Type 0
NoTurnNeedBeMade = (terms : List Term) (log : Log) (conf : Conf) (p : Proxy) (shelf : KeptMap) (top : ℕ) (s : State) → BeginsWith terms log conf p shelf top s → is_over s ≡ true
