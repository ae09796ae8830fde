use Rattle.std.proofs.Common.{◌≡◌}
use Rattle.pp_demo.specs.Asking.{behind_clients}
use Rattle.pp_demo.proofs.asking.skip_clients.Given as goal

abbrev pub invariant-loop-client : goal.invariant-loop-client
invariant-loop-client l = l.generator.state ≡ behind_clients l._client l.fn.generator.state
