use Rattle.pp_gate.proofs.SealLemmas.{ones_taken}
use Rattle.pp_gate.proofs.sealing.open_gates.Goals as goal

pub returns : goal.returns
returns c = ones_taken c.args.count 64 1 c.requires
