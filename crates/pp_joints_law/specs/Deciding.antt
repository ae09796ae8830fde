-- Behind the disk a turn decides, or at Stop all is closed (RFC 2616, section 8.1; the order is ours).
use Rattle.std.specs.Prelude.{◌≡◌, ℕ, true, false, length}
use Rattle.pp_joints_law.specs.Keeping.{HasBeenKept}
use Rattle.pp_law.specs.State.{State}
use Rattle.pp_proxy.specs.Moving.{Turning}
use Rattle.pp_rounds_law.specs.Settles.{StandsAtStop}
use Rattle.pp_rounds_law.specs.Stands.{StandsInRound}
use Rattle.pp_state.specs.Numbers.{places}

-- before Stop
abbrev pub TurnsDecide : Type 0
TurnsDecide = (number : ℕ → ℕ) (y : Turning) (s : State) → HasBeenKept number y s → s.is_stopped ≡ false → StandsInRound y.shelf y.moving s

-- at Stop, for which all clients are looked at (Handling.`Stops` of `pp_proxy`)
abbrev pub TurnsStop : Type 0
TurnsStop = (number : ℕ → ℕ) (y : Turning) (s : State) → HasBeenKept number y s → s.is_stopped ≡ true → y.moving.desk.state.awake.items ≡ places (length y.moving.desk.state.seats.items) → StandsAtStop y.shelf y.moving s
