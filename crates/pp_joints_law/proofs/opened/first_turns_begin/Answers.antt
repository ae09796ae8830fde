use Rattle.pp_joints_law.proofs.OpenedWait.{listened_begin, opened_carried, opened_wait, still, turns_begin}
use Rattle.pp_joints_law.proofs.opened.first_turns_begin.Goals as goal

pub returns : goal.returns
returns c = record { listened = listened_begin; still = still; carried = opened_carried; waits = opened_wait; begin = turns_begin }
