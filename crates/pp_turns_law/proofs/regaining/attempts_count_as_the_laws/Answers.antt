use Rattle.pp_turns_law.proofs.Regained.{regains}
use Rattle.pp_turns_law.proofs.Twice.{regains_once}
use Rattle.pp_turns_law.proofs.regaining.attempts_count_as_the_laws.Goals as goal

pub returns : goal.returns
returns c = record { regained = regains; once = regains_once }
