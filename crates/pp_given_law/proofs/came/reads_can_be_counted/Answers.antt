use Rattle.pp_given_law.proofs.CameFew.{reads_can_be_counted}
use Rattle.pp_given_law.proofs.came.reads_can_be_counted.Goals as goal

pub returns : goal.returns
returns c = record { counts = reads_can_be_counted c.what_came_can_be_counted.ensures.few }
