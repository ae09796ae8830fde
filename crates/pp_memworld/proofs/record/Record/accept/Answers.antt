use Rattle.std.proofs.Common.{refl}
use Rattle.pp_world.specs.declared.happening.Happening.TheVariants.{Opened}
use Rattle.pp_memworld.proofs.Keeping.{kept_push}
use Rattle.pp_memworld.proofs.Ties.{tied_accept}
use Rattle.pp_memworld.proofs.record.Record.accept.Goals as goal

pub invariant_of-self : goal.invariant_of-self
invariant_of-self c = record {
  tied = tied_accept _ c.args.self.now.tied refl c.place-placed.ensures.told c.place-placed.ensures.placed c.push-self.ensures.told c.push-self.ensures.pushed;
  kept = kept_push (Opened _) c.args.self.now.kept (record { draft = λ name view. refl; slot = λ name view. refl; failed = λ name view. refl; image = λ image. refl; sound = refl }) (λ is. c.place-placed.ensures.told (c.push-self.ensures.told is)) c.push-self.ensures.pushed;
}
