use Rattle.pp_kept_law.proofs.Noted.{are_noted}
use Rattle.pp_kept_law.proofs.coming.what_stands_no_more_is_noted.Goals as goal

pub returns : goal.returns
returns c = record { noted = are_noted }
