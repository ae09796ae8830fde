use Rattle.std.proofs.Common.{refl, sym, ◌∙◌, ap, cond, Option, None}
use Rattle.std.specs.Prelude.{is_some}
use Rattle.pp_holes.specs.Places.{shown}
use Rattle.pp_holes.specs.Cells.{foreign}
use Rattle.pp_objects.proofs.Slots.{some_row}
use Rattle.pp_objects.proofs.Sound.{sound-removed, view-removed}
use Rattle.pp_objects.proofs.Agreeing.{row_agrees, agree_removed, shown_foreign}
use Rattle.pp_objects.proofs.Indexing.{indexed-out}
use Rattle.pp_objects.specs.ByKey.{slot_for}
use Rattle.pp_objects.specs.Instances.{is_row_of}
use Rattle.pp_objects.specs.Inside.{instance_as}
use Rattle.pp_objects.specs.declared.row.Row.{Row}
use Rattle.pp_objects.proofs.objects.Objects.remove.Goals as goal

pub returns-in_default-clause-agrees : goal.returns-in_default-clause-agrees
returns-in_default-clause-agrees c s = absurd (some_row c.self.inside c.args.self.now c.args.slot c.self.invariant.sound c.self.view_is c.requires.there (sym c.in_default.is ∙ c.try_remove.ensures.value))

pub returns-in_default-clause-removed : goal.returns-in_default-clause-removed
returns-in_default-clause-removed c = absurd (some_row c.self.inside c.args.self.now c.args.slot c.self.invariant.sound c.self.view_is c.requires.there (sym c.in_default.is ∙ c.try_remove.ensures.value))

pub returns-in_default-clause-given : goal.returns-in_default-clause-given
returns-in_default-clause-given c = absurd (some_row c.self.inside c.args.self.now c.args.slot c.self.invariant.sound c.self.view_is c.requires.there (sym c.in_default.is ∙ c.try_remove.ensures.value))

pub drop_all-requires : goal.drop_all-requires
drop_all-requires c = record { agrees = row_agrees c.self.inside c.args.self.now c.args.slot c.in-Some.row c.args.pool.now.used c.self.invariant.sound c.self.view_is c.in-Some.ensures.value c.requires.agrees }

pub invariant_of-self-2 : goal.invariant_of-self-2
invariant_of-self-2 c = record {
  sound = (sound-removed c.self.inside (record { rows = c.try_remove.new.self; order = c.leave_order.new.order; index = c.leave_index.new.index; lives = c.self.inside.lives }) c.args.slot c.self.invariant.sound (c.self.invariant.sound.there c.args.slot ∙ ap is_some (sym c.in-Some.ensures.value)) c.in-Some.ensures.updates.changed c.in-Some.ensures.updates.others c.in-Some.ensures.len c.in-Some.ensures.capacity c.leave_order.ensures.items c.leave_order.ensures.capacity);
  indexed = indexed-out c.self.inside.index c.leave_index.new.index c.self.inside.rows.slots c.try_remove.new.self.slots c.args.slot (λ key. ap (λ x. is_row_of key (instance_as c.args.slot x)) c.in-Some.ensures.updates.changed) c.in-Some.ensures.updates.others (λ key. c.leave_index.ensures key ∙ ap (λ (x : Option Row). cond (is_row_of key (instance_as c.args.slot x)) None (slot_for key c.self.inside.index)) c.in-Some.ensures.value) c.self.invariant.indexed;
}

pub returns-clause-agrees : goal.returns-clause-agrees
returns-clause-agrees c =
    agree_removed c.self.inside (record { rows = c.try_remove.new.self; order = c.leave_order.new.order; index = c.leave_index.new.index; lives = c.self.inside.lives }) c.args.self.now _ c.args.slot c.args.pool.now.used c.drop_all.new.pool.used c.self.invariant.sound (sound-removed c.self.inside (record { rows = c.try_remove.new.self; order = c.leave_order.new.order; index = c.leave_index.new.index; lives = c.self.inside.lives }) c.args.slot c.self.invariant.sound (c.self.invariant.sound.there c.args.slot ∙ ap is_some (sym c.in-Some.ensures.value)) c.in-Some.ensures.updates.changed c.in-Some.ensures.updates.others c.in-Some.ensures.len c.in-Some.ensures.capacity c.leave_order.ensures.items c.leave_order.ensures.capacity) c.self.view_is refl
    c.in-Some.ensures.updates.changed c.in-Some.ensures.updates.others c.requires.agrees c.drop_all.ensures.agrees.distinct (c.drop_all.ensures.dropped ∙ ap (λ n. foreign n c.args.pool.now.used) (c.self.invariant.sound.owned c.args.slot c.in-Some.row (sym c.in-Some.ensures.value)).owner)

pub returns-clause-removed : goal.returns-clause-removed
returns-clause-removed c = view-removed c.self.inside (record { rows = c.try_remove.new.self; order = c.leave_order.new.order; index = c.leave_index.new.index; lives = c.self.inside.lives }) c.args.self.now c.args.slot c.self.view_is c.in-Some.ensures.updates.others c.leave_order.ensures.items refl

pub returns-clause-given : goal.returns-clause-given
returns-clause-given c = ap shown (c.drop_all.ensures.dropped ∙ ap (λ n. foreign n c.args.pool.now.used) (c.self.invariant.sound.owned c.args.slot c.in-Some.row (sym c.in-Some.ensures.value)).owner) ∙ shown_foreign c.args.slot c.args.pool.now.used
