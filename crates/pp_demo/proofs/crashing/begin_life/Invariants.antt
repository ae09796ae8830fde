use Rattle.std.proofs.Common.{◌≡◌}
use Rattle.pp_demo.specs.Script.{begin_of}
use Rattle.pp_demo.proofs.crashing.begin_life.Given as goal

abbrev pub invariant-loop-life : goal.invariant-loop-life
invariant-loop-life l = l.generator.state ≡ begin_of l._life l.fn.generator.state
