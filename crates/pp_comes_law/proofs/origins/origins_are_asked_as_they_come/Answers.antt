use Rattle.pp_comes_law.proofs.OriginWrites.{origin_writes_come}
use Rattle.pp_comes_law.proofs.origins.origins_are_asked_as_they_come.Goals as goal

pub returns : goal.returns
returns c = record { asks = origin_writes_come }
