use Rattle.pp_rounds_law.proofs.Decided.{decisions}
use Rattle.pp_rounds_law.proofs.amid.decisions_of_a_round_are_the_laws.Goals as goal

pub returns : goal.returns
returns c = record { decisions = decisions }
