use Rattle.pp_joints_law.proofs.Decided.{decides_there, stops_there}
use Rattle.pp_joints_law.proofs.deciding.turns_decide_behind_keepings.Goals as goal

pub returns : goal.returns
returns c = record { decides = decides_there; stops = stops_there }
