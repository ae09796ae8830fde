use Rattle.pp_turns_law.proofs.Standing.{standing}
use Rattle.pp_turns_law.proofs.WaitingFor.{waiting}
use Rattle.pp_turns_law.proofs.dues.standing_is_the_laws.Goals as goal

pub returns : goal.returns
returns c = record { standing = standing; waiting = waiting }
