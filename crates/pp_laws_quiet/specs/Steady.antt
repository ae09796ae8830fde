-- What happenings leave that are none of the disk, and in which the clock does not tick (ours).
use Rattle.std.specs.Prelude.{◌≡◌, ◌||◌, Bool, true, false, not, List, ◌++◌}
use Rattle.std.specs.List.{list_all}
use Rattle.pp_law.specs.State.{State, Term}
use Rattle.pp_laws_crash.specs.Changes.{changes_disk}
use Rattle.pp_obeys.specs.Obeys.{Obeys}
use Rattle.pp_world.specs.Log.{Log}
use Rattle.pp_world.specs.declared.happening.Happening.{Happening}
use Rattle.pp_world.specs.declared.happening.Happening.TheVariants.{Clock}

abbrev pub ticks : Happening → Bool
ticks (Clock seconds) = true
ticks h = false

abbrev pub AreSteady : Log → Type 0
AreSteady hs = list_all (λ h. not (changes_disk h || ticks h)) hs ≡ true

-- the clock is what it was; and where a draft failed, none is made before the next tick
pub record HasNotTicked (s t : State) : Type 0 where
  pub clock : t.clock ≡ s.clock
  pub ticked : t.has_ticked ≡ s.has_ticked
  pub lost : t.has_lost_draft ≡ s.has_lost_draft

abbrev pub SteadyOnesLeaveTheClock : Type 0
SteadyOnesLeaveTheClock = (terms : List Term) (before hs : Log) (s t : State) → Obeys terms s before → Obeys terms t (before ++ hs) → AreSteady hs → HasNotTicked s t
