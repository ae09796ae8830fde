use Rattle.pp_net.proofs.NameLemmas.{is_rising-from_sorted}
use Rattle.pp_net.proofs.listing.in_order.Goals as goal

pub returns-clause-order : goal.returns-clause-order
returns-clause-order c = is_rising-from_sorted c.args.least.now.keys c.iter.ensures.ordered
