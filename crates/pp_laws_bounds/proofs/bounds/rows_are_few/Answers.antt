use Rattle.pp_laws_bounds.proofs.SmallLaws.{few_rows}
use Rattle.pp_laws_bounds.proofs.bounds.rows_are_few.Goals as goal

pub returns : goal.returns
returns c = record { few = few_rows }
