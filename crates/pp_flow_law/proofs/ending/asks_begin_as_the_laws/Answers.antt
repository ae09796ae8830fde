use Rattle.pp_flow_law.proofs.Left.{asks_begin}
use Rattle.pp_flow_law.proofs.ending.asks_begin_as_the_laws.Goals as goal

pub returns : goal.returns
returns c = record { begins = asks_begin }
