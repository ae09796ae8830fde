use Rattle.std.proofs.Common.{◌≡◌, ◌≤◌}
use Rattle.pp_net.proofs.net_world.NetWorld.find.Given as goal

-- a turn in which nothing is found gives no number
abbrev pub invariant-loop : goal.invariant-loop
invariant-loop g l = record {
  top : l.self.top ≡ l.initial.self.top;
  faults : l.initial.self.faults ≤ l.self.faults;
}
