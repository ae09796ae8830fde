use Rattle.std.proofs.Common.{refl}
use Rattle.pp_store.proofs.Sound.{sound-extended}
use Rattle.pp_store.proofs.store.Store.extend_to.Goals as goal

pub invariant_of-self : goal.invariant_of-self
invariant_of-self c = sound-extended c.self.inside _ c.args.key.now c.args.extent c.self.invariant c.extend_to.ensures refl
