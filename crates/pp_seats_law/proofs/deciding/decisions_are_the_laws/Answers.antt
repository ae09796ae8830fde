use Rattle.pp_seats_law.proofs.Decided.{answers, asks, pages}
use Rattle.pp_seats_law.proofs.deciding.decisions_are_the_laws.Goals as goal

pub returns : goal.returns
returns c = record { pages = pages; asks = asks; answers = answers }
