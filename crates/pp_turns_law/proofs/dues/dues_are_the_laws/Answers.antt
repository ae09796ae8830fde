use Rattle.pp_turns_law.proofs.AllDue.{all_dues}
use Rattle.pp_turns_law.proofs.dues.dues_are_the_laws.Goals as goal

pub returns : goal.returns
returns c = record { dues = all_dues }
