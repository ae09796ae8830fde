use Rattle.pp_comes_law.proofs.SettledOnes.{awaited_settled}
use Rattle.pp_comes_law.proofs.settled.awaited_ones_are_settled.Goals as goal

pub returns : goal.returns
returns c = record { settled = awaited_settled }
