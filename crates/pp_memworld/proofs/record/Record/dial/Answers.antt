use Rattle.std.proofs.Common.{refl}
use Rattle.pp_world.specs.declared.happening.Happening.TheVariants.{Dialled}
use Rattle.pp_memworld.proofs.Keeping.{kept_push}
use Rattle.pp_memworld.proofs.Ties.{tied_dial}
use Rattle.pp_memworld.proofs.record.Record.dial.Goals as goal

pub invariant_of-self : goal.invariant_of-self
invariant_of-self c = record {
  tied = tied_dial _ c.args.host.now c.args.port c.args.self.now.tied refl c.place-placed.ensures.told c.place-placed.ensures.placed c.push_dialled-self.ensures.told c.push_dialled-self.ensures.pushed;
  kept = kept_push (Dialled _ c.args.host.now c.args.port) c.args.self.now.kept (record { draft = λ name view. refl; slot = λ name view. refl; failed = λ name view. refl; image = λ image. refl; sound = refl }) (λ is. c.place-placed.ensures.told (c.push_dialled-self.ensures.told is)) c.push_dialled-self.ensures.pushed;
}
