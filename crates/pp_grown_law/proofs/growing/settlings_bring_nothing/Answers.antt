use Rattle.pp_grown_law.proofs.Numbers.{shown_numbered}
use Rattle.pp_grown_law.proofs.Settled.{settlings_bring, waits_bring}
use Rattle.pp_grown_law.proofs.growing.settlings_bring_nothing.Goals as goal

pub returns : goal.returns
returns c = record { settlings = settlings_bring; waits = waits_bring; numbered = shown_numbered }
