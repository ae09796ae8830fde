use Rattle.pp_laws_sides.proofs.Counted.{exchanges_counted}
use Rattle.pp_laws_sides.proofs.counts.exchanges_are_counted.Goals as goal

pub returns : goal.returns
returns c = record { exchanges = exchanges_counted }
