use Rattle.pp_answers_law.proofs.Made.{makes}
use Rattle.pp_answers_law.proofs.settling.rows_are_made_as_the_laws.Goals as goal

pub returns : goal.returns
returns c = record { makes = makes }
