use Rattle.pp_flow_law.proofs.Told.{askers}
use Rattle.pp_flow_law.proofs.reading.askers_are_the_laws.Goals as goal

pub returns : goal.returns
returns c = record { askers = askers }
