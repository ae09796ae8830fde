-- Behind the wait an event comes that was waited for: all stands that an event rests on (ours).
--
-- Where the premises come from: what is read into is as long as from the opening on (`HasBuffers` of `pp_desk`), and nothing that a turn does
-- changes it. What comes is HasCome of `pp_proxy`, and which connections are open its TurnsOn.
use Rattle.std.specs.Prelude.{◌≡◌, ◌≤◌, ◌++◌, ℕ, IsTrue, [], ◌∷◌, length, vec_capacity, Some}
use Rattle.pp_comes_law.specs.Awaited.{HasComeTo, IsAwaited}
use Rattle.pp_desk.specs.declared.desk.Desk.{Desk}
use Rattle.pp_law.specs.Phases.{ending}
use Rattle.pp_law.specs.State.{State}
use Rattle.pp_links.specs.Links.{IsLinked}
use Rattle.pp_obeys.specs.Obeys.{Life}
use Rattle.pp_proxy.specs.Awaiting.{Awaits, Rests, Standing}
use Rattle.pp_proxy.specs.Moving.{Turning, turning}
use Rattle.pp_turn_law.specs.Waited.{StandsAtWait}
use Rattle.pp_world.specs.Log.{AppendsAll, Log, Told}
use Rattle.pp_world.specs.Wire.{IsNumbered, IsOnDialled, is_wanted, wait_happenings}
use Rattle.pp_world.specs.declared.event.Event.{Event}
use Rattle.pp_world.specs.declared.event.Wants.{Wants}
use Rattle.pp_world.specs.declared.happening.Happening.TheVariants.{Waits}

-- ---- what is beside the wait

pub record StandsBeside (x : Standing) (f : Desk) : Type 0 where
  pub buffer : length f.buffer.items ≡ 32768
  pub holds : 32768 ≤ vec_capacity f.«data»
  pub linked : IsLinked x.turning.log x.turning.moving.top x.turning.moving.links

-- an event that was waited for, which the log has behind the wait
pub record Comes (w : Wants) (event : Event) (x : Standing) (all : Log) : Type 0 where
  pub wanted : IsTrue (is_wanted w event)
  pub dialled : Told x.turning.log (IsOnDialled event)
  pub numbered : IsNumbered x.turning.moving.top event
  pub told : AppendsAll x.turning.log (Some all) (λ l. wait_happenings w event)

-- ---- where it comes

-- the turn as the wait left it, with the log that has the event
abbrev pub awaiting : Standing → Desk → Log → ℕ → Turning
awaiting x f all faults = turning x.turning.shelf f x.turning.moving.links x.turning.moving.top (Some all) faults

pub record HasComeBehind (life : Life) (budget : ℕ) (log : Log) (number : ℕ → ℕ) (w : Wants) (event : Event) (x : Standing) (f : Desk) (all : Log) (faults : ℕ) (s : State) : Type 0 where
  pub stands : IsAwaited (life.terms budget) (log ++ Waits w ∷ []) number w (awaiting x f all faults) (ending s)
  pub came : HasComeTo (log ++ Waits w ∷ []) w event (awaiting x f all faults)

abbrev pub EventsAreAwaited : Type 0
EventsAreAwaited = (life : Life) (budget : ℕ) (log : Log) (x : Standing) (w : Wants) (clients : ℕ) (e f : Desk) (event : Event) (all : Log) (faults : ℕ) (s : State) → (stands : StandsAtWait life budget log x s) → Awaits x.read w clients x.turning.moving.desk e → Rests w clients e f → StandsBeside x f → Comes w event x all
    → HasComeBehind life budget log stands.number w event x f all faults s
