use Rattle.pp_endings_law.proofs.Desks.{desks_end}
use Rattle.pp_endings_law.proofs.Ended.{all_end}
use Rattle.pp_endings_law.proofs.replies.replies_end_as_the_laws.Goals as goal

pub returns : goal.returns
returns c = record { ends = all_end; desks = desks_end }
