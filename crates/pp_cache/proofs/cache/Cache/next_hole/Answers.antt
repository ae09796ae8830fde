use Rattle.std.proofs.Common.{◌≡◌, true, ap, ◌∙◌, arith}
use Rattle.std.proofs.lemmas.Grind.{common_steps}
use Rattle.pp_holes.specs.Places.{shown}
use Rattle.pp_objects.specs.Instances.{is_there, total_at}
use Rattle.pp_cache.specs.Holes.{hole_in, hole_of}
use Rattle.pp_cache.specs.Memory.{Memory}
use Rattle.pp_cache.proofs.HoleLemmas.{hole_is, hole_there}
use Rattle.pp_cache.proofs.cache.Cache.next_hole.Goals as goal

pub returns-clause-is : goal.returns-clause-is
returns-clause-is c =
    let o = c.self.inside in
    let is = o.objects.instances in
    let slot = c.args.id.slot in
    let there : is_there c.args.id is ≡ true = grind (arith, common_steps) in
    hole_there (is_there c.args.id is) c.args.at c.next_hole.result (hole_in slot (total_at slot is) c.args.at (shown o.pool.used)) there
    (hole_is is o.pool.used slot c.args.at c.next_hole.result c.self.invariant.0 c.next_hole.ensures)
    ∙ ap (λ (m : Memory). hole_of c.args.id c.args.at m) c.self.view_is
