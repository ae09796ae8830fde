use Rattle.pp_joints_law.proofs.Awaited.{rested_await}
use Rattle.pp_joints_law.proofs.Given.{given_ones}
use Rattle.pp_joints_law.proofs.awaiting.turns_await_behind_waits.Goals as goal

pub returns : goal.returns
returns c = record { given = given_ones; awaits = rested_await }
