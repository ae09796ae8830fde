use Rattle.pp_seats_law.proofs.Entries.{exchanges}
use Rattle.pp_seats_law.proofs.exchanges.exchanges_are_the_laws.Goals as goal

pub returns : goal.returns
returns c = record { read = exchanges }
