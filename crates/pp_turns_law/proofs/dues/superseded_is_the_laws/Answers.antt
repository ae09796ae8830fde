use Rattle.pp_turns_law.proofs.Follows.{superseded}
use Rattle.pp_turns_law.proofs.dues.superseded_is_the_laws.Goals as goal

pub returns : goal.returns
returns c = record { superseded = superseded }
