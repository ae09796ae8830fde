use Rattle.pp_given_law.proofs.Begun.{given_begins}
use Rattle.pp_given_law.proofs.given.nobody_is_refused_as_replies_begin.Goals as goal

pub returns : goal.returns
returns c = given_begins
