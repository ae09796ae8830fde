use Rattle.pp_turns_law.proofs.Waiting.{shares, waits_alike, waits_on}
use Rattle.pp_turns_law.proofs.marking.waiting_is_the_laws.Goals as goal

pub returns : goal.returns
returns c = record { sharing = shares; exchanges = waits_alike; waiting = waits_on }
