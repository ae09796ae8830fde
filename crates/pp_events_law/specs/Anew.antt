-- Behind each event attempts count anew for those whose next byte is held: where it is handled, the turn stands at the law's state from there
-- on (ours).
use Rattle.std.specs.Prelude.{ℕ}
use Rattle.pp_desk.specs.declared.desk.Desk.{Desk}
use Rattle.pp_law.specs.State.{State, Handling, Free}
use Rattle.pp_proxy.specs.Leaving.{Regains}
use Rattle.pp_proxy.specs.Moving.{Moving, with_desk}
use Rattle.pp_events_law.specs.Stands.{IsHandled, StandsAtEvent}

abbrev pub AttemptsCountAnew : Type 0
AttemptsCountAnew = (number : ℕ → ℕ) (x : Moving) (anew : Desk) (s : State) → IsHandled number x s → Regains x.desk anew → StandsAtEvent number Handling Free (with_desk anew x) s
