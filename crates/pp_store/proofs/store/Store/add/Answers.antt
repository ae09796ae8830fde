use Rattle.std.proofs.Common.{arith, length, ap}
use Rattle.pp_store.proofs.Sound.{sound-with_row}
use Rattle.pp_store.proofs.store.Store.add.Goals as goal

pub invariant_of-self-2 : goal.invariant_of-self-2
invariant_of-self-2 c =
    sound-with_row c.self.inside _ c.args.self.now c.args.row c.self.invariant c.self.view_is c.requires.absent c.requires.sound
    c.in_ok-push.ensures.ok c.reserve.ensures.items
    (omega (arith, c.in_ok-reserve.ensures.ok, c.len-more.ensures, ap length c.reserve.ensures.items, c.self.inside.closed.ok))
    (omega (arith, c.reserve.ensures.capacity, c.self.invariant.many))
