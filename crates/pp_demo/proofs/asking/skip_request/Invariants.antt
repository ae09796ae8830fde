use Rattle.std.proofs.Common.{◌≡◌}
use Rattle.pp_demo.specs.Generator.{state_behind}
use Rattle.pp_demo.proofs.asking.skip_request.Given as goal

abbrev pub invariant-loop-value : goal.invariant-loop-value
invariant-loop-value l = l.generator.state ≡ state_behind l._value l.initial.generator.state
