use Rattle.std.proofs.Common.{◌≡◌, ◌++◌, take, drop}
use Rattle.pp_pipe.specs.Asks.{all_taken}
use Rattle.pp_pipe.proofs.asks.take.Given as goal

abbrev pub invariant-loop-index : goal.invariant-loop-index
invariant-loop-index l = take l.index l.asks ++ all_taken l.left (drop l.index l.asks) ≡ all_taken l.fn.n l.fn.asks
