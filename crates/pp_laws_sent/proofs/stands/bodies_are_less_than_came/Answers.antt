use Rattle.pp_laws_sent.proofs.Coming.{bodies_are_less}
use Rattle.pp_laws_sent.proofs.stands.bodies_are_less_than_came.Goals as goal

pub returns : goal.returns
returns c = record { less = bodies_are_less }
