use Rattle.pp_events_law.proofs.Woken.{origin_reads, origin_writes}
use Rattle.pp_events_law.proofs.owing.origins_are_owed_as_by_the_law.Goals as goal

pub returns : goal.returns
returns c = record { reads = origin_reads; writes = origin_writes }
