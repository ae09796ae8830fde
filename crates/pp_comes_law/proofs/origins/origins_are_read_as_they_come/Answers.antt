use Rattle.pp_comes_law.proofs.OriginReads.{origin_reads_come}
use Rattle.pp_comes_law.proofs.origins.origins_are_read_as_they_come.Goals as goal

pub returns : goal.returns
returns c = record { reads = origin_reads_come c.origins_are_read_as_by_the_law.ensures.whole }
