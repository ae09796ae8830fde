use Rattle.pp_laws_served.proofs.Joined.{turns_end}
use Rattle.pp_laws_served.proofs.served.turns_end.Goals as goal

pub returns : goal.returns
returns c = record { ends = turns_end }
