use Rattle.pp_gate.proofs.SealLemmas.{ones_taken}
use Rattle.pp_recover.proofs.strays.closed.Goals as goal

pub returns : goal.returns
returns c = ones_taken c.args.count 16384 0 c.requires
