use Rattle.pp_given_law.proofs.CameFew.{came_is_few}
use Rattle.pp_given_law.proofs.came.what_came_can_be_counted.Goals as goal

pub returns : goal.returns
returns c = record { few = came_is_few c.bodies_are_less_than_came.ensures.less }
