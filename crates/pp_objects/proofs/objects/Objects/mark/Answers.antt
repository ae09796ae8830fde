use Rattle.std.proofs.Common.{arith, ◌++◌, ◌∷◌, [], length, refl, ◌∙◌, ap}
use Rattle.pp_pool.proofs.Numbers.{length-filter_present}
use Rattle.pp_objects.proofs.Slots.{in_order}
use Rattle.pp_objects.proofs.Sound.{sound-moved, view-moved}
use Rattle.pp_objects.proofs.Agreeing.{same_cells}
use Rattle.pp_objects.proofs.objects.Objects.mark.Goals as goal

pub push_reserved-requires : goal.push_reserved-requires
push_reserved-requires c =
    omega (
      arith,
      c.leave_order.new.order.ok,
      ap length c.leave_order.ensures.items,
      c.leave_order.ensures.capacity,
      c.self.inside.order.ok,
      length-filter_present c.args.id.slot c.self.inside.order.items (in_order c.self.inside c.args.self.now c.args.id c.self.invariant.sound c.self.view_is c.requires),
    )

pub invariant_of-self : goal.invariant_of-self
invariant_of-self c = record {
  sound = sound-moved c.self.inside _ c.args.id.slot c.self.invariant.sound (in_order c.self.inside c.args.self.now c.args.id c.self.invariant.sound c.self.view_is c.requires)
      refl (c.push_reserved.ensures.items ∙ ap (λ ns. ns ++ c.args.id.slot ∷ []) c.leave_order.ensures.items) (c.push_reserved.ensures.capacity ∙ c.leave_order.ensures.capacity);
  indexed = c.self.invariant.indexed;
}

pub returns-clause-marked : goal.returns-clause-marked
returns-clause-marked c =
    view-moved c.self.inside (record { rows = c.self.inside.rows; order = c.push_reserved.new.self; index = c.self.inside.index; lives = c.self.inside.lives }) c.args.self.now c.args.id.slot c.self.invariant.sound c.self.view_is (in_order c.self.inside c.args.self.now c.args.id c.self.invariant.sound c.self.view_is c.requires)
    refl (c.push_reserved.ensures.items ∙ ap (λ ns. ns ++ c.args.id.slot ∷ []) c.leave_order.ensures.items) refl

pub returns-clause-cells : goal.returns-clause-cells
returns-clause-cells c slot =
    let sound =
    sound-moved c.self.inside (record { rows = c.self.inside.rows; order = c.push_reserved.new.self; index = c.self.inside.index; lives = c.self.inside.lives }) c.args.id.slot c.self.invariant.sound (in_order c.self.inside c.args.self.now c.args.id c.self.invariant.sound c.self.view_is c.requires)
    refl (c.push_reserved.ensures.items ∙ ap (λ ns. ns ++ c.args.id.slot ∷ []) c.leave_order.ensures.items) (c.push_reserved.ensures.capacity ∙ c.leave_order.ensures.capacity) in
    same_cells c.self.inside (record { rows = c.self.inside.rows; order = c.push_reserved.new.self; index = c.self.inside.index; lives = c.self.inside.lives }) c.args.self.now _ c.args.id.slot slot c.self.invariant.sound sound c.self.view_is refl refl
