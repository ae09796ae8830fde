use Rattle.pp_reads_law.proofs.FromWait.{origins_read}
use Rattle.pp_reads_law.proofs.Reading.{readings}
use Rattle.pp_reads_law.proofs.getting.origins_are_read_as_by_the_law.Goals as goal

pub returns : goal.returns
returns c = record { leads = readings c.heads_come_as_the_laws.ensures.heads; whole = origins_read c.heads_come_as_the_laws.ensures.heads }
