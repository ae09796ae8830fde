use Rattle.pp_given_law.proofs.NamesFirst.{may_be_noted}
use Rattle.pp_given_law.proofs.notes.rows_may_be_noted.Goals as goal

pub returns : goal.returns
returns c = may_be_noted
