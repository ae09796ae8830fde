use Rattle.pp_asks_law.proofs.Left.{closings_refuse, places_refuse, silent_refuse}
use Rattle.pp_asks_law.proofs.staying.memory_is_refused_for_no_row.Goals as goal

pub returns : goal.returns
returns c = record { silent = silent_refuse; closed = closings_refuse; placed = places_refuse }
