use Rattle.pp_laws_left.proofs.Senders.{senders_are_there}
use Rattle.pp_laws_left.proofs.left.senders_are_there.Goals as goal

pub returns : goal.returns
returns c = record { there = senders_are_there }
