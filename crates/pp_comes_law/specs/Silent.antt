-- Stop, a tick, an origin that was reached, and a client that comes, each as it was waited for, are handled as the law has it (RFC 2616, section
-- 8.1; the order is ours).
use Rattle.std.specs.Prelude.{◌≡◌, ℕ, false, List}
use Rattle.pp_cache.specs.Bounds.{IsBounded}
use Rattle.pp_comes_law.specs.Awaited.{HasComeTo, IsAwaited, IsHandledBehind}
use Rattle.pp_events_law.specs.Stands.{come}
use Rattle.pp_law.specs.State.{State, Term}
use Rattle.pp_law.specs.Turn.{rest_with}
use Rattle.pp_proxy.specs.Handling.{Handles}
use Rattle.pp_proxy.specs.Moving.{Turning}
use Rattle.pp_world.specs.Log.{Log}
use Rattle.pp_world.specs.declared.event.Event.{Event}
use Rattle.pp_world.specs.declared.event.Event.TheVariants.{Accepted, Reached as NowReached, Stop, Tick}
use Rattle.pp_world.specs.declared.event.Wants.{Wants}

-- the cache is bounded behind it, as each is; and this life did not go astray: so there was memory for a client that came
abbrev pub Comes : Event → Type 0
Comes event = (terms : List Term) (log : Log) (number : ℕ → ℕ) (w : Wants) (x y : Turning) (u : State) → IsAwaited terms log number w x u → HasComeTo log w event x → Handles event (come event x) y → IsBounded y.moving.desk.state.cache → y.moving.desk.state.is_astray ≡ false
    → IsHandledBehind number event x y (rest_with w u)

abbrev pub StopsCome : Type 0
StopsCome = Comes Stop

abbrev pub TicksCome : Type 0
TicksCome = (seconds : ℕ) → Comes (Tick seconds)

abbrev pub ReachedOnesCome : Type 0
ReachedOnesCome = (k : ℕ) → Comes (NowReached k)

abbrev pub ClientsCome : Type 0
ClientsCome = (c : ℕ) → Comes (Accepted c)
