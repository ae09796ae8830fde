use Rattle.pp_seats_law.proofs.Stages.{begun, passed, replies, told, undecided}
use Rattle.pp_seats_law.proofs.words.stages_are_the_laws.Goals as goal

pub returns : goal.returns
returns c = record { replies = replies; begun = begun; undecided = undecided; told = told; passed = passed }
