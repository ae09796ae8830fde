use Rattle.std.proofs.Common.{◌≡◌, ◌∙◌, true, false, arith, refl, ap, subst, sym, length, ℕ}
use Rattle.std.proofs.lemmas.Grind.{common_steps}
use Rattle.pp_desk.specs.declared.desk.Desk.{Desk}
use Rattle.pp_keeping.proofs.RepeatLemmas.{ends_early, ends_late, none_yet, one_more}
use Rattle.pp_keeping.specs.Keeping.{TakesNext, ends_there, keeping}
use Rattle.pp_shelf.proofs.SteadyLemmas.{steady_none, steady_then}
use Rattle.pp_keeping.proofs.keeping.take_names.Goals as goal

pub loop-name-init : goal.loop-name-init
loop-name-init g c = record {
  linked = c.requires.linked;
  holds = c.requires.holds;
  steady = steady_none _;
  is = none_yet ends_there TakesNext (length c.args.desk.now.state.cache.outdated) (keeping c.args.desk.now.state c.args.shelf.now (g.W.Logged.log c.args.world.now) (g.W.Logged.faults c.args.world.now));
  rest = refl;
  top = refl;
  faults = omega arith;
}

pub loop-name-preserved : goal.loop-name-preserved
loop-name-preserved g c =
    let log = g.W.Logged.log in
    let faults = g.W.Logged.faults in
    let d0 : Desk = c.args.desk.now in
    let mid = c.loop-name in
    let before = mid.invariant in
    let step = c.take_next-goes.ensures in
    let new = c.take_next-goes.new in
    let goes : mid.goes ≡ true = grind (arith, common_steps) in
    record {
      linked = step.linked;
      holds = step.holds;
      steady = steady_then before.steady step.steady;
      is =
          one_more ends_there TakesNext (length c.args.desk.now.state.cache.outdated) mid._name (keeping d0.state c.args.shelf.now (log c.args.world.now) (faults c.args.world.now)) (keeping mid.desk.state mid.shelf (log mid.world) (faults mid.world))
          (keeping new.desk.state new.shelf (log new.world) (faults new.world)) mid.goes c.take_next-goes.result (omega (arith, c.loop-name-test.true, c.outdated-name-end.ensures)) goes before.is step.is;
      rest = ap (λ (d : Desk). record d { state = record d.state { cache = d0.state.cache } }) step.rest ∙ before.rest;
      top = step.top ∙ before.top;
      faults = omega (arith, before.faults, step.faults);
    }

pub returns-after-loop-name-clause-is : goal.returns-after-loop-name-clause-is
returns-after-loop-name-clause-is g c =
    let log = g.W.Logged.log in
    let faults = g.W.Logged.faults in
    let mid = c.loop-name in
    ends_late ends_there TakesNext (length c.args.desk.now.state.cache.outdated) mid._name (keeping c.args.desk.now.state c.args.shelf.now (log c.args.world.now) (faults c.args.world.now)) (keeping mid.desk.state mid.shelf (log mid.world) (faults mid.world))
    mid.goes (omega (arith, c.loop-name-test.false, c.outdated-name-end.ensures)) mid.invariant.is

pub returns-then-not-goes-clause-is : goal.returns-then-not-goes-clause-is
returns-then-not-goes-clause-is g c =
    let log = g.W.Logged.log in
    let faults = g.W.Logged.faults in
    let mid = c.loop-name in
    let none : mid.goes ≡ false = grind (arith, common_steps) in
    ends_early ends_there TakesNext (length c.args.desk.now.state.cache.outdated) mid._name (keeping c.args.desk.now.state c.args.shelf.now (log c.args.world.now) (faults c.args.world.now)) (keeping mid.desk.state mid.shelf (log mid.world) (faults mid.world))
    mid.goes refl none mid.invariant.is
