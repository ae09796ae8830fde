use Rattle.pp_laws_ends.proofs.Wanted.{nothing_more}
use Rattle.pp_laws_ends.proofs.ends.nothing_more_is_wanted.Goals as goal

pub returns : goal.returns
returns c = record { wanted = nothing_more }
