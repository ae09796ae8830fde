use Rattle.std.proofs.Common.{true, false, sym, ◌∙◌, ap}
use Rattle.pp_holes.specs.Places.{shown}
use Rattle.pp_objects.specs.Instances.{Rows, in_slot}
use Rattle.pp_objects.specs.Changes.{is_last}
use Rattle.pp_objects.proofs.Slots.{there_at}
use Rattle.pp_objects.proofs.Agreeing.{agree_same, left_when, given_when}
use Rattle.pp_objects.proofs.objects.Objects.leave.Goals as goal

pub returns-then-is_last_follower-clause-left : goal.returns-then-is_last_follower-clause-left
returns-then-is_last_follower-clause-left c =
    ap (λ (w : Rows). w.instances) c.remove.ensures.removed ∙ sym (left_when true c.args.id.slot (in_slot c.args.id.slot c.args.self.now.instances) c.args.self.now.instances (ap is_last (there_at c.self.inside c.args.self.now c.args.id c.self.invariant.sound c.self.view_is c.requires.there) ∙ sym c.is_last_follower.ensures ∙ c.if-is_last_follower.true))

pub returns-then-is_last_follower-clause-given : goal.returns-then-is_last_follower-clause-given
returns-then-is_last_follower-clause-given c = c.remove.ensures.given ∙ sym (given_when true c.args.id.slot (in_slot c.args.id.slot c.args.self.now.instances) (shown c.args.pool.now.used) (ap is_last (there_at c.self.inside c.args.self.now c.args.id c.self.invariant.sound c.self.view_is c.requires.there) ∙ sym c.is_last_follower.ensures ∙ c.if-is_last_follower.true))

pub returns-else-is_last_follower-clause-agrees : goal.returns-else-is_last_follower-clause-agrees
returns-else-is_last_follower-clause-agrees c = agree_same c.args.self.now.instances _ c.args.pool.now.used c.unfollow.ensures.cells c.requires.agrees

pub returns-else-is_last_follower-clause-left : goal.returns-else-is_last_follower-clause-left
returns-else-is_last_follower-clause-left c =
    ap (λ (w : Rows). w.instances) c.unfollow.ensures.left ∙ sym (left_when false c.args.id.slot (in_slot c.args.id.slot c.args.self.now.instances) c.args.self.now.instances (ap is_last (there_at c.self.inside c.args.self.now c.args.id c.self.invariant.sound c.self.view_is c.requires.there) ∙ sym c.is_last_follower.ensures ∙ c.if-is_last_follower.false))

pub returns-else-is_last_follower-clause-given : goal.returns-else-is_last_follower-clause-given
returns-else-is_last_follower-clause-given c = sym (given_when false c.args.id.slot (in_slot c.args.id.slot c.args.self.now.instances) (shown c.args.pool.now.used) (ap is_last (there_at c.self.inside c.args.self.now c.args.id c.self.invariant.sound c.self.view_is c.requires.there) ∙ sym c.is_last_follower.ensures ∙ c.if-is_last_follower.false))
