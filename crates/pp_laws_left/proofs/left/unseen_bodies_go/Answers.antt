use Rattle.pp_laws_left.proofs.BodiedLaws.{bodies_are_awaited, unseen_bodies_go}
use Rattle.pp_laws_left.proofs.left.unseen_bodies_go.Goals as goal

pub returns : goal.returns
returns c = record { awaited = bodies_are_awaited; go = unseen_bodies_go }
