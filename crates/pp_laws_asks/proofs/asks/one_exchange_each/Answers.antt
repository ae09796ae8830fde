use Rattle.pp_laws_asks.proofs.AsksLaws.{one_each}
use Rattle.pp_laws_asks.proofs.asks.one_exchange_each.Goals as goal

pub returns : goal.returns
returns c = record { one = one_each }
