use Rattle.pp_turn_law.proofs.EventsTaken.{events_taken}
use Rattle.pp_turn_law.proofs.turned.events_are_taken.Goals as goal

pub returns : goal.returns
returns c = events_taken c.origins_are_read_as_they_come.ensures.reads (record { amid = c.reads_come_with_what_they_clear.ensures.amid; behind = c.reads_come_with_what_they_clear.ensures.behind; counts = c.what_is_dropped_stays_counted_as_an_origin_is_read.ensures })
