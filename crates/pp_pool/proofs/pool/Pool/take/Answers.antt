use Rattle.std.proofs.Common.{◌+◌, ◌*◌, ◌<◌, ◌≤◌, length, arith, refl, ap}
use Rattle.std.proofs.lemmas.List.{length-map}
use Rattle.pp_pool.specs.Slots.{used_at}
use Rattle.pp_pool.proofs.Numbers.{AreDistinct-push}
use Rattle.pp_pool.proofs.Views.{numbers-view, distinct_seen}
use Rattle.pp_pool.proofs.Sound.{sound-taken, chunks-taken, room_for}
use Rattle.pp_pool.proofs.pool.Pool.take.Goals as goal

pub returns-in_err-number-clause-distinct : goal.returns-in_err-number-clause-distinct
returns-in_err-number-clause-distinct c =
    distinct_seen c.self.inside.block.items c.self.inside.slots.items _ (rw c.in_err-number.ensures.unchanged c.self.invariant.distinct)

abbrev below : (c : goal.After-self-1) → c.in_ok-number.number < length c.self.inside.slots.items
below c = omega (arith, c.in_ok-number.ensures.below, c.self.invariant.sizes)

abbrev backed : (c : goal.After-self-1) → c.in_ok-number.number * 4096 + 4096 ≤ length c.reach.new.block.items
backed c = omega (arith, c.reach.ensures.long)

pub invariant_of-self-2 : goal.invariant_of-self-2
invariant_of-self-2 c =
    sound-taken c.self.inside _ c.in_ok-number.number _ c.self.invariant (below c) c.in_ok-number.ensures.free c.reach.ensures.longer (backed c) c.reach.ensures.room refl c.in_ok-number.ensures.taken (omega arith)

pub returns-clause-room : goal.returns-clause-room
returns-clause-room c =
    rw (← c.self.view_is) (rw (length-map c.self.inside.order.used (used_at c.self.inside.block.items c.self.inside.slots.items)) (room_for c.self.inside c.in_ok-number.number c.self.invariant (below c) c.in_ok-number.ensures.free))

pub returns-clause-is_new : goal.returns-clause-is_new
returns-clause-is_new c = rw (← c.self.view_is) (rw (numbers-view c.self.inside.block.items c.self.inside.slots.items c.self.inside.order.used) c.in_ok-number.ensures.free)

pub returns-clause-taken : goal.returns-clause-taken
returns-clause-taken c =
    chunks-taken c.self.inside c.reach.new.block.items _ c.take.new.self.used c.args.self.now c.in_ok-number.number (record { owner = c.args.owner; index = c.args.index; filled = 0 })
    c.self.invariant (below c) c.in_ok-number.ensures.free c.self.view_is refl c.reach.ensures.kept refl (ap (λ l. l.used) c.in_ok-number.ensures.taken)

pub returns-clause-distinct : goal.returns-clause-distinct
returns-clause-distinct c =
    distinct_seen c.reach.new.block.items _ _ (rw c.in_ok-number.ensures.taken (AreDistinct-push c.in_ok-number.number c.self.inside.order.used c.self.invariant.distinct c.in_ok-number.ensures.free))
