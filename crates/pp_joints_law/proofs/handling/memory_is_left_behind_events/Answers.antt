use Rattle.pp_joints_law.proofs.Done.{handled_done}
use Rattle.pp_joints_law.proofs.handling.memory_is_left_behind_events.Goals as goal

pub returns : goal.returns
returns c = record { done = handled_done }
