use Rattle.pp_laws_asks.proofs.OneFetch.{one_fetch}
use Rattle.pp_laws_asks.proofs.orders.one_fetch_for_many.Goals as goal

pub returns : goal.returns
returns c = record { one = one_fetch }
