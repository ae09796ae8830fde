use Rattle.pp_seats_law.proofs.Nexts.{nexts}
use Rattle.pp_seats_law.proofs.Uses.{uses}
use Rattle.pp_seats_law.proofs.words.nexts_are_the_laws.Goals as goal

pub returns : goal.returns
returns c = record { next = nexts; used = uses }
