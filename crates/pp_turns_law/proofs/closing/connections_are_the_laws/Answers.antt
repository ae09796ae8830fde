use Rattle.pp_turns_law.proofs.Dropped.{drops}
use Rattle.pp_turns_law.proofs.Shut.{shuts}
use Rattle.pp_turns_law.proofs.closing.connections_are_the_laws.Goals as goal

pub returns : goal.returns
returns c = record { closings = shuts; drops = drops }
