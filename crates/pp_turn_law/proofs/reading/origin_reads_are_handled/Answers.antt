use Rattle.pp_turn_law.proofs.ReadSo.{origin_reads_handled}
use Rattle.pp_turn_law.proofs.reading.origin_reads_are_handled.Goals as goal

pub returns : goal.returns
returns c = origin_reads_handled c.origins_are_read_as_they_come.ensures.reads (record { amid = c.reads_come_with_what_they_clear.ensures.amid; behind = c.reads_come_with_what_they_clear.ensures.behind; counts = c.what_is_dropped_stays_counted_as_an_origin_is_read.ensures })
