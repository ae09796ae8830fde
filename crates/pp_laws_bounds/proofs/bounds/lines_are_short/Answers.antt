use Rattle.pp_laws_bounds.proofs.Laws.{short_lines}
use Rattle.pp_laws_bounds.proofs.bounds.lines_are_short.Goals as goal

pub returns : goal.returns
returns c = record { short = short_lines }
