use Rattle.pp_flow_law.proofs.Errands.{heads}
use Rattle.pp_flow_law.proofs.changing.heads_are_the_laws.Goals as goal

pub returns : goal.returns
returns c = record { heads = heads }
