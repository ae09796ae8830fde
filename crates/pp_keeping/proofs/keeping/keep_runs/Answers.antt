use Rattle.std.proofs.Common.{◌≡◌, ◌∙◌, true, false, arith, refl, ap, subst, sym, length, ℕ}
use Rattle.std.proofs.lemmas.Grind.{common_steps}
use Rattle.pp_desk.specs.declared.desk.Desk.{Desk}
use Rattle.pp_keeping.proofs.RepeatLemmas.{ends_early, ends_late, ends_noted, none_yet, one_more}
use Rattle.pp_keeping.specs.Keeping.{KeepsRun, Keeping, RepeatsOn, ends_astray, keeping}
use Rattle.pp_state.specs.declared.state.State.{State}
use Rattle.pp_shelf.proofs.SteadyLemmas.{steady_none, steady_then}
use Rattle.pp_keeping.proofs.keeping.keep_runs.Goals as goal

pub loop-run-init : goal.loop-run-init
loop-run-init g c = record {
  linked = c.requires.linked;
  holds = c.requires.holds;
  steady = steady_none _;
  is = none_yet ends_astray (KeepsRun c.args.id (length c.args.desk.now.file.items)) 16386 (keeping c.args.desk.now.state c.args.shelf.now (g.W.Logged.log c.args.world.now) (g.W.Logged.faults c.args.world.now));
  rest = refl;
  long = refl;
  top = refl;
  faults = omega arith;
}

pub loop-run-preserved : goal.loop-run-preserved
loop-run-preserved g c =
    let log = g.W.Logged.log in
    let faults = g.W.Logged.faults in
    let d0 : Desk = c.args.desk.now in
    let mid = c.loop-run in
    let before = mid.invariant in
    let step = c.keep_run-goes.ensures in
    let new = c.keep_run-goes.new in
    let goes : mid.goes ≡ true = grind (arith, common_steps) in
    record {
      linked = step.linked;
      holds = step.holds;
      steady = steady_then before.steady step.steady;
      is =
          one_more ends_astray (KeepsRun c.args.id (length d0.file.items)) 16386 mid._run (keeping d0.state c.args.shelf.now (log c.args.world.now) (faults c.args.world.now)) (keeping mid.desk.state mid.shelf (log mid.world) (faults mid.world))
          (keeping new.desk.state new.shelf (log new.world) (faults new.world)) mid.goes c.keep_run-goes.result c.loop-run-test.true goes before.is (subst (λ (n : ℕ). KeepsRun c.args.id n (keeping mid.desk.state mid.shelf (log mid.world) (faults mid.world)) (keeping new.desk.state new.shelf (log new.world) (faults new.world)) c.keep_run-goes.result) before.long step.is);
      rest = ap (λ (d : Desk). record d { state = record d.state { cache = d0.state.cache; has_lost_draft = d0.state.has_lost_draft; is_astray = d0.state.is_astray }; file = d0.file }) step.rest ∙ before.rest;
      long = step.long ∙ before.long;
      top = step.top ∙ before.top;
      faults = omega (arith, before.faults, step.faults);
    }

pub returns-clause-is : goal.returns-clause-is
returns-clause-is g c =
    let log = g.W.Logged.log in
    let faults = g.W.Logged.faults in
    let mid = c.loop-run in
    let x = keeping c.args.desk.now.state c.args.shelf.now (log c.args.world.now) (faults c.args.world.now) in
    let y = keeping mid.desk.state mid.shelf (log mid.world) (faults mid.world) in
    subst (λ (s : State). RepeatsOn (KeepsRun c.args.id (length c.args.desk.now.file.items)) 16386 true x (record y { state = s })) (sym c.note_more.ensures)
    (subst (λ (z : Keeping). RepeatsOn (KeepsRun c.args.id (length c.args.desk.now.file.items)) 16386 true x z) (ends_noted mid.goes y)
    (ends_late ends_astray (KeepsRun c.args.id (length c.args.desk.now.file.items)) 16386 mid._run x y mid.goes (omega (arith, c.loop-run-test.false)) mid.invariant.is))

pub returns-clause-rest : goal.returns-clause-rest
returns-clause-rest g c =
    let d0 : Desk = c.args.desk.now in
    let mid : Desk = c.loop-run.desk in
    ap (λ (s : State). record mid { state = record s { cache = d0.state.cache; has_lost_draft = d0.state.has_lost_draft; is_astray = d0.state.is_astray }; file = d0.file }) c.note_more.ensures ∙ c.loop-run.invariant.rest

pub returns-then-not-goes-clause-is : goal.returns-then-not-goes-clause-is
returns-then-not-goes-clause-is g c =
    let log = g.W.Logged.log in
    let faults = g.W.Logged.faults in
    let mid = c.loop-run in
    let none : mid.goes ≡ false = grind (arith, common_steps) in
    ends_early ends_astray (KeepsRun c.args.id (length c.args.desk.now.file.items)) 16386 mid._run (keeping c.args.desk.now.state c.args.shelf.now (log c.args.world.now) (faults c.args.world.now)) (keeping mid.desk.state mid.shelf (log mid.world) (faults mid.world))
    mid.goes refl none mid.invariant.is
