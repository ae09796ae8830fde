-- A client that can be read, or written to, as it was waited for, is handled as the law has it (RFC 2616, sections 5 and 6).
use Rattle.std.specs.Prelude.{◌≡◌, ℕ, false, List, Some}
use Rattle.pp_cache.specs.Bounds.{IsBounded}
use Rattle.pp_comes_law.specs.Awaited.{HasComeTo, IsAwaited, IsHandledBehind}
use Rattle.pp_events_law.specs.Stands.{come}
use Rattle.pp_law.specs.State.{State, Term}
use Rattle.pp_law.specs.Turn.{rest_with}
use Rattle.pp_proxy.specs.Handling.{Handles}
use Rattle.pp_proxy.specs.Moving.{Turning}
use Rattle.pp_state.specs.Ends.{numbers_of, place_of}
use Rattle.pp_world.specs.Log.{Log}
use Rattle.pp_world.specs.declared.event.Event.{Event}
use Rattle.pp_world.specs.declared.event.Event.TheVariants.{Readable}
use Rattle.pp_world.specs.declared.event.Wants.{Wants}

-- of a client at this place
abbrev pub ComesAt : (ℕ → Event) → Type 0
ComesAt event = (id i : ℕ) (terms : List Term) (log : Log) (number : ℕ → ℕ) (w : Wants) (x y : Turning) (u : State) → place_of id (numbers_of x.moving.desk.state.seats.items) ≡ Some i → IsAwaited terms log number w x u → HasComeTo log w (event id) x → Handles (event id) (come (event id) x) y
    → IsBounded y.moving.desk.state.cache → y.moving.desk.state.is_astray ≡ false → IsHandledBehind number (event id) x y (rest_with w u)

abbrev pub ClientReadsCome : Type 0
ClientReadsCome = ComesAt (λ id. Readable id)
