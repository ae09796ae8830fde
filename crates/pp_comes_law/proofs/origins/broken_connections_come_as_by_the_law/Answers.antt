use Rattle.pp_comes_law.proofs.OriginBreaks.{broken_come}
use Rattle.pp_comes_law.proofs.origins.broken_connections_come_as_by_the_law.Goals as goal

pub returns : goal.returns
returns c = record { broken = broken_come }
