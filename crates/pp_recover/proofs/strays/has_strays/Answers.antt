use Rattle.std.proofs.Common.{sym, ◌∙◌}
use Rattle.pp_recover.proofs.StrayLemmas.{below_next, below_none, strays_here, strays_nowhere}
use Rattle.pp_recover.proofs.strays.has_strays.Goals as goal

pub loop-i-init : goal.loop-i-init
loop-i-init c = below_none c.args.gates.now

pub returns-then-begins : goal.returns-then-begins
returns-then-begins c = sym (strays_here c.args.gates.now c.loop-i.i c.loop-i-test.true (sym c.begins.ensures ∙ c.if-begins.true))

pub loop-i-preserved : goal.loop-i-preserved
loop-i-preserved c = below_next c.args.gates.now c.loop-i.i c.loop-i.invariant (sym c.begins.ensures ∙ c.if-begins.false)

pub returns : goal.returns
returns c = sym (strays_nowhere c.args.gates.now c.loop-i.i c.loop-i-test.false c.loop-i.auto.i-end c.loop-i.invariant)
