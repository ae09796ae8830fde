use Rattle.pp_given_law.proofs.Stands.{given_events}
use Rattle.pp_given_law.proofs.given.nobody_is_refused_in_events.Goals as goal

pub returns : goal.returns
returns c = given_events
