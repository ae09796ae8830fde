use Rattle.std.proofs.Common.{◌≡◌, drop, fold}
use Rattle.pp_world.specs.Connections.{top_of, top_with}
use Rattle.pp_memworld.proofs.crash.top_of.Given as goal

abbrev pub invariant-loop-happening : goal.invariant-loop-happening
invariant-loop-happening l = fold top_with l.top (drop l.happening-index l.log) ≡ top_of l.log
