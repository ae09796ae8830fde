use Rattle.pp_turns_law.proofs.Needed.{needs}
use Rattle.pp_turns_law.proofs.needing.needs_are_the_laws.Goals as goal

pub returns : goal.returns
returns c = record { needs = needs }
