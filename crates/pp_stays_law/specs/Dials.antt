-- Dials may be refused wherever exchanges get their places, in one log (RFC 2616, section 8.1.4).
use Rattle.std.specs.Prelude.{◌≡◌, ℕ, ◌++◌, Option}
use Rattle.pp_law.specs.Connections.{WaitsDial, placing}
use Rattle.pp_law.specs.State.{State, Exchange}
use Rattle.pp_obeys.specs.Moves.{Leads}
use Rattle.pp_places.specs.Around.{Around, moment_of}
use Rattle.pp_places_law.specs.Around.{MayPlace, ShowsAround}
use Rattle.pp_places_law.specs.Places.{Reaches}
use Rattle.pp_places_law.specs.Refusals.{MayBeRefused}
use Rattle.pp_state.specs.declared.state.State.{State as Turn}
use Rattle.pp_world.specs.Log.{Log}

-- wherever the turn comes to by a front of this log, as MayBeRefused of `pp_places_law` has it
abbrev pub MayBeRefusedAlong : Log → (ℕ → ℕ) → Turn → Option ℕ → Around → State → Type 0
MayBeRefusedAlong log number p after x s = (steps : ℕ) (hs rest : Log) (z : Around) (t : State) (e : Exchange) → log ≡ hs ++ rest → Reaches steps (moment_of p) after x hs z → Leads hs s t → MayPlace t → ShowsAround number p z (placing t).state → (placing t).pause ≡ WaitsDial e
    → MayBeRefused p z (placing t).state e
