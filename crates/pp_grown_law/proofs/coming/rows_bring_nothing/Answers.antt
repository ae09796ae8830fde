use Rattle.pp_grown_law.proofs.Rows.{retirings_bring_nothing, rows_bring_nothing}
use Rattle.pp_grown_law.proofs.coming.rows_bring_nothing.Goals as goal

pub returns : goal.returns
returns c = record { retired = retirings_bring_nothing; settled = rows_bring_nothing }
