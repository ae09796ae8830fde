-- The laws: a turn that may end can, with wants that are as good as those of the law, which are among them.
use Rattle.std.proofs.Common.{refl, ℕ, Bool, ◌&&◌, Option, Some, None, ap, ◌∙◌}
use Rattle.pp_world.specs.declared.happening.Happening.TheVariants.{Waits}
use Rattle.pp_law.specs.Permits.{is_permitted, permits, permits_behind_forgotten, permits_waits}
use Rattle.pp_law.specs.Phases.{ending}
use Rattle.pp_law.specs.Served.{has_to_ask}
use Rattle.pp_law.specs.State.{State}
use Rattle.pp_laws_ends.specs.Ends.{AllStand, wants_of}
use Rattle.pp_laws_ends.proofs.Standing.{all_stand}
use Rattle.pp_laws_ends.proofs.Wanted.{nothing_more}
use Rattle.pp_laws_served.specs.Served.{IsAsGood}
use Rattle.pp_laws_served.proofs.Joined.{turns_end}
use Rattle.pp_laws_left.specs.Bodies.{SomeWaitIsPermitted, TurnsCanWait}
use Rattle.pp_laws_left.proofs.BodiedLaws.{left_is_whole}
use Rattle.pp_laws_left.proofs.Unended.{turns_may_end}

as_good : (s : State) → AllStand s → IsAsGood s (wants_of s)
as_good s h = record {
  accept = refl;
  says = λ c i. (h.clients c i).1;
  reads = λ c i on. (h.clients c i).0 ∙ on;
  asks = λ k i reached. (h.conns k i).1 ∙ ap (λ b. b && has_to_ask s k) reached;
  gets = λ k i reached awaited. (h.conns k i).0;
  no_more = (nothing_more s).1;
}

pub turns_can_wait : TurnsCanWait
unfolding is_permitted permits
turns_can_wait terms s log obeys none may runs w good =
    let ends = turns_may_end terms s log obeys none may runs in
    ap (λ (o : Option ℕ). elim o as (λ x. Bool) [ Some who ↦ permits_behind_forgotten s (Waits w) | None ↦ permits_waits s w ]) none ∙ turns_end terms s log ends (left_is_whole terms s log ends) w good

pub some_wait_is_permitted : SomeWaitIsPermitted
some_wait_is_permitted terms s log obeys none may runs = turns_can_wait terms s log obeys none may runs (wants_of (ending s)) (as_good (ending s) (all_stand terms s log obeys))
