use Rattle.pp_given_law.proofs.Stands.{given_behind}
use Rattle.pp_given_law.proofs.given.nobody_is_refused_behind_events.Goals as goal

pub returns : goal.returns
returns c = given_behind
