use Rattle.pp_laws_asks.proofs.AsksLaws.{few_waiting}
use Rattle.pp_laws_asks.proofs.asks.few_exchanges_wait.Goals as goal

pub returns : goal.returns
returns c = record { few = few_waiting }
