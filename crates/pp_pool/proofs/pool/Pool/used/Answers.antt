use Rattle.std.proofs.Common.{length}
use Rattle.std.proofs.lemmas.List.{length-map}
use Rattle.pp_pool.specs.Slots.{used_at}
use Rattle.pp_pool.proofs.Numbers.{few_below}
use Rattle.pp_pool.proofs.Views.{distinct_seen}
use Rattle.pp_pool.proofs.pool.Pool.used.Goals as goal

pub returns-clause-within : goal.returns-clause-within
returns-clause-within c =
    let few = few_below (length c.self.inside.slots.items) c.self.inside.order.used c.self.invariant.distinct c.self.invariant.within in
    rw (← c.self.view_is) (rw (length-map c.self.inside.order.used (used_at c.self.inside.block.items c.self.inside.slots.items)) few)

pub returns-clause-distinct : goal.returns-clause-distinct
returns-clause-distinct c = rw (← c.self.view_is) (distinct_seen c.self.inside.block.items c.self.inside.slots.items c.self.inside.order.used c.self.invariant.distinct)
