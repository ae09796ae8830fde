use Rattle.pp_kept_law.proofs.Behind.{shown_still}
use Rattle.pp_kept_law.proofs.staying.turns_are_shown_behind_keepings.Goals as goal

pub returns : goal.returns
returns c = shown_still
