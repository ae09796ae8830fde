use Rattle.pp_laws_sides.proofs.Counted.{rows_counted}
use Rattle.pp_laws_sides.proofs.counts.rows_are_counted.Goals as goal

pub returns : goal.returns
returns c = record { rows = rows_counted }
