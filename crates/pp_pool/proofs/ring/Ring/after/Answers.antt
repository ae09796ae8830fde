use Rattle.std.proofs.Common.{◌<◌, ◌∙◌, ap, arith}
use Rattle.std.proofs.lemmas.List.{get_or_read}
use Rattle.pp_pool.proofs.Links.{next_after}
use Rattle.pp_pool.proofs.ring.Ring.after.Goals as goal

pub returns : goal.returns
returns c i lt at =
    let below : c.args.number < c.self.inside.end = omega (arith, ap (λ l. l.size) c.self.view_is, c.requires) in
    get_or_read c.self.inside.next.items c.args.number c.index.result.now (omega (arith, below, c.self.invariant.nexts)) c.index.ensures 0
    ∙ next_after c.self.inside c.args.self.now c.args.number i c.self.invariant c.self.view_is lt at
