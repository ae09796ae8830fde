use Rattle.pp_endings_law.proofs.GoneEnds.{all_gone, ends_gone}
use Rattle.pp_endings_law.proofs.gone.ended_ones_are_gone_as_the_laws.Goals as goal

pub returns : goal.returns
returns c = record { ends = ends_gone; gones = all_gone }
