use Rattle.pp_laws_sides.proofs.Counted.{requests_counted}
use Rattle.pp_laws_sides.proofs.counts.requests_are_counted.Goals as goal

pub returns : goal.returns
returns c = record { requests = requests_counted }
