use Rattle.pp_joints_law.proofs.Settlings.{settlings}
use Rattle.pp_joints_law.proofs.settling.settlings_carry.Goals as goal

pub returns : goal.returns
returns c = record { carries = settlings }
