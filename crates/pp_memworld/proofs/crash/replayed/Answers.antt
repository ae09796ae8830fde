use Rattle.std.proofs.Common.{rules}
use Rattle.pp_memworld.proofs.Replaying.{follows_next}
use Rattle.pp_memworld.proofs.crash.replayed.Goals as goal

pub loop-happening-preserved : goal.loop-happening-preserved
loop-happening-preserved c =
    follows_next c.args.log.now c.loop-happening.happening-index c.happening-item.result c.loop-happening.folder c.hear.new.self (search rules) c.happening-item.is c.loop-happening.invariant c.in_ok-hear.ensures
