use Rattle.pp_laws_ends.proofs.Passing.{passed_served}
use Rattle.pp_laws_ends.proofs.Served.{conns_served}
use Rattle.pp_laws_ends.proofs.ends.connections_are_served.Goals as goal

pub returns : goal.returns
returns c = record { served = conns_served; passed = passed_served }
