use Rattle.pp_turns_law.proofs.Splits.{splits}
use Rattle.pp_turns_law.proofs.firsts.memory_is_given_or_refused.Goals as goal

pub returns : goal.returns
returns c = record { splits = splits }
