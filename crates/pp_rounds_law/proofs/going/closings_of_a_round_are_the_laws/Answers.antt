use Rattle.pp_rounds_law.proofs.Closing.{closing}
use Rattle.pp_rounds_law.proofs.going.closings_of_a_round_are_the_laws.Goals as goal

pub returns : goal.returns
returns c = record { closings = closing }
