use Rattle.std.proofs.Common.{refl}
use Rattle.pp_store.proofs.Sound.{sound-without}
use Rattle.pp_store.proofs.store.Store.forget.Goals as goal

pub invariant_of-self : goal.invariant_of-self
invariant_of-self c = sound-without c.self.inside _ c.args.key.now c.self.invariant c.forget.ensures refl
