use Rattle.pp_flow_law.proofs.Unplaced.{unplaces}
use Rattle.pp_flow_law.proofs.placing.unplaces_are_the_laws.Goals as goal

pub returns : goal.returns
returns c = record { unplaces = unplaces }
