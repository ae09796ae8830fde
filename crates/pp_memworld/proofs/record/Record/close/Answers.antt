use Rattle.std.proofs.Common.{◌∙◌, ap, ◌++◌, ◌∷◌, []}
use Rattle.pp_world.specs.Wire.{by_side}
use Rattle.pp_world.specs.declared.happening.Happening.{Happening}
use Rattle.pp_world.specs.declared.happening.Happening.TheVariants.{Shut, Dropped}
use Rattle.pp_memworld.proofs.Keeping.{closing_keeps, kept_push}
use Rattle.pp_memworld.proofs.Ties.{tied_close}
use Rattle.pp_memworld.proofs.record.Record.close.Goals as goal

pub invariant_of-self : goal.invariant_of-self
invariant_of-self c = record {
  tied = tied_close c.args.id c.displace-side.result c.args.self.now.tied c.displace-side.ensures.removed c.push-self.ensures.told
      (λ is. c.push-self.ensures.pushed is ∙ ap (λ (h : Happening). c.args.self.now.log.items ++ h ∷ []) c.closed.ensures);
  kept = kept_push (by_side c.displace-side.result (Shut c.args.id) (Dropped c.args.id)) c.args.self.now.kept (closing_keeps c.displace-side.result c.args.id) c.push-self.ensures.told
      (λ is. c.push-self.ensures.pushed is ∙ ap (λ (h : Happening). c.args.self.now.log.items ++ h ∷ []) c.closed.ensures);
}
