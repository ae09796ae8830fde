use Rattle.pp_laws_served.proofs.Joined.{decided_ones}
use Rattle.pp_laws_served.proofs.served.decided_ones_are_provided_for.Goals as goal

pub returns : goal.returns
returns c = record { provided = decided_ones }
