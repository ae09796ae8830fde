use Rattle.pp_laws_left.proofs.OwnedEnds.{ends_are_owned, turns_are_owned}
use Rattle.pp_laws_left.proofs.left.turns_are_owned.Goals as goal

pub returns : goal.returns
returns c = record { owned = turns_are_owned; ends = ends_are_owned }
