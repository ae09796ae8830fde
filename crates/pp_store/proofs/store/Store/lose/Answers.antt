use Rattle.pp_store.proofs.Sound.{sound-lost}
use Rattle.pp_store.proofs.store.Store.lose.Goals as goal

pub invariant_of-self : goal.invariant_of-self
invariant_of-self c =
    sound-lost c.self.inside _ c.args.self.now c.args.key.now c.file_name.result c.self.invariant c.self.view_is c.requires c.file_name.ensures c.forget.ensures c.push_reserved.ensures.items c.push_reserved.ensures.capacity
