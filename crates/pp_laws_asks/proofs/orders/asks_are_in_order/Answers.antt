use Rattle.pp_laws_asks.proofs.InOrder.{in_order}
use Rattle.pp_laws_asks.proofs.orders.asks_are_in_order.Goals as goal

pub returns : goal.returns
returns c = record { ordered = in_order }
