use Rattle.pp_turns_law.proofs.Decided.{decided}
use Rattle.pp_turns_law.proofs.dues.requests_are_decided_as_the_laws.Goals as goal

pub returns : goal.returns
returns c = record { decided = decided }
