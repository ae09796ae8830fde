use Rattle.pp_turn_law.proofs.FewNames.{few_names}
use Rattle.pp_turn_law.proofs.LifeServed.{served_lawful}
use Rattle.pp_turn_law.proofs.living.served_lives_are_lawful.Goals as goal

pub returns : goal.returns
returns c = record { names = few_names; lawful = served_lawful c.lives_go_on.ensures.lives }
