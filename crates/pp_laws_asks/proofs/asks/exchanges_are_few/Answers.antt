use Rattle.pp_laws_asks.proofs.AsksLaws.{few_exchanges}
use Rattle.pp_laws_asks.proofs.asks.exchanges_are_few.Goals as goal

pub returns : goal.returns
returns c = record { few = few_exchanges }
