use Rattle.std.proofs.Common.{◌≡◌}
use Rattle.pp_net.proofs.connection.Connection.drain.Given as goal

abbrev pub invariant-loop : goal.invariant-loop
invariant-loop l = record {
  phase : l.self.phase ≡ l.initial.self.phase;
  id : l.self.id ≡ l.initial.self.id;
}
