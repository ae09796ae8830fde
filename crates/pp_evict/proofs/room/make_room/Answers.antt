use Rattle.std.proofs.Common.{sym, ◌∙◌}
use Rattle.pp_evict.proofs.Owned.{owner_there}
use Rattle.pp_evict.proofs.room.make_room.Goals as goal

pub returns-in_default-owner-clause-victim : goal.returns-in_default-owner-clause-victim
returns-in_default-owner-clause-victim c =
    absurd (owner_there c.args.objects.now.instances c.args.pool.now.used c.args.pins.now.items c.in-Some.owner c.in-Some.index c.requires.agrees c.in-Some.ensures.oldest (sym c.in_default-owner.is ∙ c.owner.ensures.owner))

pub returns-in_default-owner-clause-none : goal.returns-in_default-owner-clause-none
returns-in_default-owner-clause-none c =
    absurd (owner_there c.args.objects.now.instances c.args.pool.now.used c.args.pins.now.items c.in-Some.owner c.in-Some.index c.requires.agrees c.in-Some.ensures.oldest (sym c.in_default-owner.is ∙ c.owner.ensures.owner))
