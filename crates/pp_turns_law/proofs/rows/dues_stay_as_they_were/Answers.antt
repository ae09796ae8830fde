use Rattle.pp_turns_law.proofs.Brought.{dues_stay}
use Rattle.pp_turns_law.proofs.rows.dues_stay_as_they_were.Goals as goal

pub returns : goal.returns
returns c = record { dues = dues_stay }
