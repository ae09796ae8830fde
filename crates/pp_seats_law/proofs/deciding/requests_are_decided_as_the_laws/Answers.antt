use Rattle.pp_seats_law.proofs.HeadDues.{brought_counts_so, heads, rows_decide}
use Rattle.pp_seats_law.proofs.deciding.requests_are_decided_as_the_laws.Goals as goal

pub returns : goal.returns
returns c = record { heads = heads; rows = rows_decide; counts = brought_counts_so }
