use Rattle.std.proofs.Common.{refl, ap}
use Rattle.pp_pool.proofs.Numbers.{AreDistinct-filter, AreDistinct-push, is_in_filter_same}
use Rattle.pp_pool.proofs.Views.{is_in_order, distinct_seen}
use Rattle.pp_pool.proofs.Sound.{sound-touched, chunks-touched}
use Rattle.pp_pool.proofs.pool.Pool.touch.Goals as goal

pub touch-requires : goal.touch-requires
touch-requires c = is_in_order c.self.inside c.args.self.now c.chunk.inside.number c.self.view_is (rw c.chunk.view_is c.requires)

pub invariant_of-self : goal.invariant_of-self
invariant_of-self c =
    sound-touched c.self.inside _ c.chunk.inside.number c.self.invariant (is_in_order c.self.inside c.args.self.now c.chunk.inside.number c.self.view_is (rw c.chunk.view_is c.requires)) refl refl c.touch.ensures

pub returns-clause-touched : goal.returns-clause-touched
returns-clause-touched c =
    rw (← c.chunk.view_is) (chunks-touched c.self.inside _ c.args.self.now c.chunk.inside.number c.self.invariant (is_in_order c.self.inside c.args.self.now c.chunk.inside.number c.self.view_is (rw c.chunk.view_is c.requires)) c.self.view_is (ap (λ o. o.used) c.touch.ensures))

pub returns-clause-distinct : goal.returns-clause-distinct
returns-clause-distinct c =
    distinct_seen c.self.inside.block.items c.self.inside.slots.items _ (rw c.touch.ensures
    (AreDistinct-push c.chunk.inside.number _ (AreDistinct-filter c.chunk.inside.number c.self.inside.order.used c.self.invariant.distinct) (is_in_filter_same c.chunk.inside.number c.self.inside.order.used)))
