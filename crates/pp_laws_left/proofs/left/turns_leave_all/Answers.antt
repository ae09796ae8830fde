use Rattle.pp_laws_left.proofs.BodiedLaws.{left_is_whole, turns_leave_all}
use Rattle.pp_laws_left.proofs.left.turns_leave_all.Goals as goal

pub returns : goal.returns
returns c = record { whole = left_is_whole; all = turns_leave_all }
