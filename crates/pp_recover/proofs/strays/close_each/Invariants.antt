use Rattle.std.proofs.Common.{◌≤◌, ◌≡◌, ◌+◌, length, true}
use Rattle.pp_world.specs.Log.{Told}
use Rattle.pp_gate.specs.Runs.{RunsOps}
use Rattle.pp_recover.specs.Closing.{RestsTo}
use Rattle.pp_recover.proofs.StrayLemmas.{close_below}
use Rattle.pp_recover.proofs.strays.close_each.Given as goal

abbrev pub invariant-loop-i : goal.invariant-loop-i
invariant-loop-i g l = record {
  runs : RunsOps (g.D.Logged.log l.fn.disk) (g.D.Logged.log l.disk) (close_below l.name l.gates l.i) true;
  stands : Told (g.D.Logged.log l.disk) (RestsTo l.name (8192 + length l.gates));
  faults : g.D.Logged.faults l.fn.disk ≤ g.D.Logged.faults l.disk;
  top : g.D.Logged.top l.disk ≡ g.D.Logged.top l.fn.disk;
}
