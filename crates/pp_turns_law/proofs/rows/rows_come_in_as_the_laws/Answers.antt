use Rattle.pp_turns_law.proofs.Entered.{come_in}
use Rattle.pp_turns_law.proofs.rows.rows_come_in_as_the_laws.Goals as goal

pub returns : goal.returns
returns c = record { rows = come_in }
