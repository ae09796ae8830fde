use Rattle.std.proofs.Common.{sym, ◌∙◌, ap}
use Rattle.pp_holes.specs.Places.{shown}
use Rattle.pp_objects.specs.Instances.{Rows}
use Rattle.pp_objects.specs.Inside.{instance_at}
use Rattle.pp_objects.proofs.Slots.{there_at, slot_shown}
use Rattle.pp_objects.proofs.Agreeing.{agree_same, retired_gone, retired_kept, given_gone, given_kept, zero_test, other_test}
use Rattle.pp_objects.proofs.objects.Objects.retire_id.Goals as goal

pub returns-then-followers_in-eq0-clause-retired : goal.returns-then-followers_in-eq0-clause-retired
returns-then-followers_in-eq0-clause-retired c =
    ap (λ (w : Rows). w.instances) c.remove.ensures.removed
    ∙ sym (retired_gone c.args.self.now.instances c.args.id.slot (instance_at c.self.inside.rows.slots c.args.id.slot) _ (there_at c.self.inside c.args.self.now c.args.id c.self.invariant.sound c.self.view_is c.requires.there) (slot_shown c.self.inside.rows.slots c.args.id.slot) (zero_test _ (sym c.followers_in.ensures ∙ c.if-followers_in-eq0.true)))

pub returns-then-followers_in-eq0-clause-given : goal.returns-then-followers_in-eq0-clause-given
returns-then-followers_in-eq0-clause-given c =
    c.remove.ensures.given
    ∙ sym (given_gone (shown c.args.pool.now.used) c.args.id.slot (instance_at c.self.inside.rows.slots c.args.id.slot) _ (there_at c.self.inside c.args.self.now c.args.id c.self.invariant.sound c.self.view_is c.requires.there) (slot_shown c.self.inside.rows.slots c.args.id.slot) (zero_test _ (sym c.followers_in.ensures ∙ c.if-followers_in-eq0.true)))

pub returns-else-followers_in-eq0-clause-agrees : goal.returns-else-followers_in-eq0-clause-agrees
returns-else-followers_in-eq0-clause-agrees c = agree_same c.args.self.now.instances _ c.args.pool.now.used c.set_retired.ensures.cells c.requires.agrees

pub returns-else-followers_in-eq0-clause-retired : goal.returns-else-followers_in-eq0-clause-retired
returns-else-followers_in-eq0-clause-retired c =
    ap (λ (w : Rows). w.instances) c.set_retired.ensures.retired
    ∙ sym (retired_kept c.args.self.now.instances c.args.id.slot (instance_at c.self.inside.rows.slots c.args.id.slot) _ (there_at c.self.inside c.args.self.now c.args.id c.self.invariant.sound c.self.view_is c.requires.there) (slot_shown c.self.inside.rows.slots c.args.id.slot) (other_test _ _ (λ e. c.if-followers_in-eq0.false (c.followers_in.ensures ∙ e))))

pub returns-else-followers_in-eq0-clause-given : goal.returns-else-followers_in-eq0-clause-given
returns-else-followers_in-eq0-clause-given c =
    sym (given_kept (shown c.args.pool.now.used) (instance_at c.self.inside.rows.slots c.args.id.slot) _ (there_at c.self.inside c.args.self.now c.args.id c.self.invariant.sound c.self.view_is c.requires.there) (other_test _ _ (λ e. c.if-followers_in-eq0.false (c.followers_in.ensures ∙ e))))
