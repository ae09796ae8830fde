use Rattle.std.proofs.Common.{◌≡◌, take}
use Rattle.pp_pipe.specs.Asks.{total}
use Rattle.pp_pipe.proofs.asks.total.Given as goal

abbrev pub invariant-loop-ask : goal.invariant-loop-ask
invariant-loop-ask l = l.sum ≡ total (take l.ask-index l.asks)
