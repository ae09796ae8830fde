use Rattle.std.proofs.Common.{◌≡◌, ◌++◌}
use Rattle.pp_demo.specs.Asking.{behind_clients, cues_of_clients}
use Rattle.pp_demo.proofs.asking.put_clients.Given as goal

abbrev pub invariant-loop-client : goal.invariant-loop-client
invariant-loop-client l = record {
  state : l.generator.state ≡ behind_clients l._client l.fn.generator.state;
  cues : l.cues.items ≡ l.fn.cues.items ++ cues_of_clients l._client l.last_offsets l.fn.generator.state;
}
