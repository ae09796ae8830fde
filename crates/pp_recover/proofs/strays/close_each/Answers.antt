use Rattle.std.proofs.Common.{arith, refl, ◌∙◌, sym}
use Rattle.pp_recover.proofs.StrayLemmas.{closed_none, closed_more, closed_same, closed_failed, closed_whole}
use Rattle.pp_recover.proofs.strays.close_each.Goals as goal
use Rattle.pp_recover.proofs.strays.close_each.Goals.{then-begins+in_ok-close_from, else-begins}

pub loop-i-init : goal.loop-i-init
loop-i-init g c = record {
  runs = closed_none _ c.args.name.now c.args.gates.now;
  stands = c.requires.stands;
  faults = omega arith;
  top = refl;
}

pub loop-i-preserved : goal.loop-i-preserved
loop-i-preserved g c =
    elim c.if-begins.branch [
      | then-begins+in_ok-close_from w ↦ rw w.disk-is (record {
        runs = closed_more _ _ _ c.args.name.now c.args.gates.now c.loop-i.i _ c.loop-i.invariant.runs (sym c.begins.ensures ∙ w.if-begins.true) w.in_ok-close_from.ensures.ops;
        stands = w.in_ok-close_from.ensures.stands;
        faults = omega (arith, w.in_ok-close_from.ensures.faults);
        top = w.in_ok-close_from.ensures.top ∙ c.loop-i.invariant.top;
      })
      | else-begins w ↦ rw w.disk-is (record {
        runs = closed_same _ _ c.args.name.now c.args.gates.now c.loop-i.i c.loop-i.invariant.runs (sym c.begins.ensures ∙ w.if-begins.false);
        stands = c.loop-i.invariant.stands;
        faults = c.loop-i.invariant.faults;
        top = c.loop-i.invariant.top;
      })
    ]

pub returns-in_err-close_from-clause-ops : goal.returns-in_err-close_from-clause-ops
returns-in_err-close_from-clause-ops g c =
    closed_failed _ _ _ c.args.name.now c.args.gates.now c.loop-i.i c.from_residual.result c.loop-i-test.true c.from_residual.ensures.0 c.loop-i.invariant.runs (sym c.begins.ensures ∙ c.if-begins.true) c.in_err-close_from.ensures.ops

pub returns-clause-ops : goal.returns-clause-ops
returns-clause-ops g c = closed_whole _ _ c.args.name.now c.args.gates.now c.loop-i.i c.loop-i-test.false c.loop-i.auto.i-end c.loop-i.invariant.runs
