-- From an event that is handled to where memory may be left (ours).
--
-- Where the premises come from: IsHandled of `pp_events_law` is what each event leaves, with each client that can be decided (Ready of
-- `pp_events_law`).
use Rattle.std.specs.Prelude.{ℕ}
use Rattle.pp_events_law.specs.Stands.{AreReadyAt, IsHandled}
use Rattle.pp_evicting_law.specs.Evicting.{IsDoneWithEvent}
use Rattle.pp_law.specs.State.{State}
use Rattle.pp_proxy.specs.Moving.{Moving}

-- the turn stands where memory may be left
abbrev pub HandledOnesAreDone : Type 0
HandledOnesAreDone = (number : ℕ → ℕ) (x : Moving) (s : State) (it : IsHandled number x s) → AreReadyAt number x s → IsDoneWithEvent number x it.handled
