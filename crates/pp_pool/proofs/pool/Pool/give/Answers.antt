use Rattle.std.proofs.Common.{refl, ap}
use Rattle.pp_pool.proofs.Numbers.{AreDistinct-filter}
use Rattle.pp_pool.proofs.Views.{is_in_order, distinct_seen}
use Rattle.pp_pool.proofs.Sound.{sound-given, chunks-given}
use Rattle.pp_pool.proofs.pool.Pool.give.Goals as goal

pub give-requires : goal.give-requires
give-requires c = is_in_order c.self.inside c.args.self.now c.chunk.inside.number c.self.view_is (rw c.chunk.view_is c.requires)

pub invariant_of-self : goal.invariant_of-self
invariant_of-self c = sound-given c.self.inside _ c.chunk.inside.number c.self.invariant refl refl c.give.ensures

pub returns-clause-given : goal.returns-clause-given
returns-clause-given c = rw (← c.chunk.view_is) (chunks-given c.self.inside _ c.args.self.now c.chunk.inside.number c.self.view_is (ap (λ o. o.used) c.give.ensures))

pub returns-clause-distinct : goal.returns-clause-distinct
returns-clause-distinct c =
    distinct_seen c.self.inside.block.items c.self.inside.slots.items _ (rw c.give.ensures (AreDistinct-filter c.chunk.inside.number c.self.inside.order.used c.self.invariant.distinct))
