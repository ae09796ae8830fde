use Rattle.pp_rests_law.proofs.LateLaws.{few_rows}
use Rattle.pp_rests_law.proofs.keeping.few_rows_are_used_behind_new_ones.Goals as goal

pub returns : goal.returns
returns c = record { few = few_rows }
