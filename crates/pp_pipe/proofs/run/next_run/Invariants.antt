use Rattle.std.proofs.Common.{◌≤◌, ◌-◌, length, []}
use Rattle.pp_pipe.specs.Feeding.{Continues}
use Rattle.pp_pipe.proofs.run.next_run.Given as goal

abbrev pub invariant-loop-used : goal.invariant-loop-used
invariant-loop-used l = record {
  within : l.used ≤ length l.bytes;
  body : Continues l.fn.decoder l.bytes [] l.used l.decoder;
}

abbrev pub decreases-loop-used : goal.decreases-loop-used
decreases-loop-used l = length l.bytes - l.used
