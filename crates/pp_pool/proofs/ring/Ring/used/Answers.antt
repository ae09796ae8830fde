use Rattle.std.proofs.Common.{length, sym, ◌∙◌, ap}
use Rattle.pp_pool.proofs.Links.{front_long}
use Rattle.pp_pool.proofs.ring.Ring.used.Goals as goal

pub returns : goal.returns
returns c = sym (front_long c.self.inside c.self.invariant) ∙ ap (λ l. length l.used) c.self.view_is
