use Rattle.pp_laws_unused.proofs.Laws.{openings_are_unused}
use Rattle.pp_laws_unused.proofs.unused.nothing_is_there_yet.Goals as goal

pub returns : goal.returns
returns c = record { unused = openings_are_unused }
