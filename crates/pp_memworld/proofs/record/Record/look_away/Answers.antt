use Rattle.std.proofs.Common.{refl, arith}
use Rattle.pp_world.specs.declared.happening.Happening.TheVariants.{Unread}
use Rattle.pp_memworld.proofs.Keeping.{kept_unread}
use Rattle.pp_memworld.proofs.Ties.{tied_keep}
use Rattle.pp_memworld.proofs.record.Record.look_away.Goals as goal

pub invariant_of-self : goal.invariant_of-self
invariant_of-self c = record {
  tied = tied_keep (Unread c.args.name.now) c.args.self.now.tied (record { side = λ id side. refl; top = λ top. refl }) c.follow_unread-self.ensures.told c.follow_unread-self.ensures.pushed (omega arith);
  kept = kept_unread c.args.name.now c.args.self.now.kept c.follow_unread-self.ensures.told c.follow_unread-self.ensures.pushed c.follow_unread-self.ensures.failed c.follow_unread-self.ensures.draft c.follow_unread-self.ensures.slots;
}
