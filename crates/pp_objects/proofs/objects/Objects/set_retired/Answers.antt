use Rattle.std.proofs.Common.{Some, refl, sym, ◌∙◌, ap, subst, cond, set, Option, None}
use Rattle.std.specs.Option.{option_copied_mut}
use Rattle.slab.specs.Slab.{with_value}
use Rattle.pp_objects.specs.declared.row.Row.{Row}
use Rattle.pp_objects.specs.Changes.{retired}
use Rattle.pp_objects.specs.Inside.{instance_as, IsOwned}
use Rattle.pp_objects.proofs.Slots.{none_there, set_same, set_other}
use Rattle.pp_objects.proofs.Sound.{sound-set, view-set}
use Rattle.pp_objects.proofs.Agreeing.{same_faces}
use Rattle.pp_objects.proofs.Indexing.{indexed-out}
use Rattle.pp_objects.specs.ByKey.{slot_for}
use Rattle.pp_objects.specs.Instances.{is_row_of}
use Rattle.pp_objects.proofs.objects.Objects.set_retired.Goals as goal

pub returns-in_default-clause-retired : goal.returns-in_default-clause-retired
returns-in_default-clause-retired c = absurd (none_there c.self.inside c.args.self.now c.args.id c.self.invariant.sound c.self.view_is c.requires (ap option_copied_mut (sym c.in_default.is) ∙ c.get_mut.ensures.value))

pub returns-in_default-clause-cells : goal.returns-in_default-clause-cells
returns-in_default-clause-cells c s = absurd (none_there c.self.inside c.args.self.now c.args.id c.self.invariant.sound c.self.view_is c.requires (ap option_copied_mut (sym c.in_default.is) ∙ c.get_mut.ensures.value))

pub invariant_of-self-2 : goal.invariant_of-self-2
invariant_of-self-2 c = record {
  sound = sound-set c.self.inside (record { rows = with_value c.self.inside.rows c.args.id.slot c.retire.new.self; order = c.self.inside.order; index = c.leave_index.new.index; lives = c.self.inside.lives }) c.args.id.slot c.in-Some.row.now c.retire.new.self c.self.invariant.sound (sym c.in-Some.ensures.value) (let P : Row → Type 0 = λ r. IsOwned c.args.id.slot r in subst P (sym c.retire.ensures) (record { owner = (c.self.invariant.sound.owned c.args.id.slot c.in-Some.row.now (sym c.in-Some.ensures.value)).owner; total = (c.self.invariant.sound.owned c.args.id.slot c.in-Some.row.now (sym c.in-Some.ensures.value)).total; ends = (c.self.invariant.sound.owned c.args.id.slot c.in-Some.row.now (sym c.in-Some.ensures.value)).ends })) refl refl;
  indexed = indexed-out c.self.inside.index c.leave_index.new.index c.self.inside.rows.slots (set c.self.inside.rows.slots c.args.id.slot (Some c.retire.new.self)) c.args.id.slot (λ key. ap (λ x. is_row_of key (instance_as c.args.id.slot x)) (set_same c.self.inside.rows.slots c.args.id.slot c.in-Some.row.now c.retire.new.self (sym c.in-Some.ensures.value)) ∙ ap (λ (r : Row). is_row_of key (instance_as c.args.id.slot (Some r))) c.retire.ensures) (λ n apart. set_other c.self.inside.rows.slots c.args.id.slot n c.retire.new.self apart) (λ key. c.leave_index.ensures key ∙ ap (λ (x : Option Row). cond (is_row_of key (instance_as c.args.id.slot x)) None (slot_for key c.self.inside.index)) c.in-Some.ensures.value) c.self.invariant.indexed;
}

pub returns-clause-retired : goal.returns-clause-retired
returns-clause-retired c =
    view-set c.self.inside (record { rows = with_value c.self.inside.rows c.args.id.slot c.retire.new.self; order = c.self.inside.order; index = c.leave_index.new.index; lives = c.self.inside.lives }) c.args.self.now c.args.id.slot c.in-Some.row.now c.retire.new.self retired c.self.invariant.sound c.self.view_is (sym c.in-Some.ensures.value) refl refl refl (ap (λ (r : Row). instance_as c.args.id.slot (Some r)) c.retire.ensures)

pub returns-clause-cells : goal.returns-clause-cells
returns-clause-cells c = same_faces c.self.inside (record { rows = with_value c.self.inside.rows c.args.id.slot c.retire.new.self; order = c.self.inside.order; index = c.leave_index.new.index; lives = c.self.inside.lives }) c.args.self.now _ c.args.id.slot c.in-Some.row.now c.retire.new.self c.self.invariant.sound (sound-set c.self.inside (record { rows = with_value c.self.inside.rows c.args.id.slot c.retire.new.self; order = c.self.inside.order; index = c.leave_index.new.index; lives = c.self.inside.lives }) c.args.id.slot c.in-Some.row.now c.retire.new.self c.self.invariant.sound (sym c.in-Some.ensures.value) (let P : Row → Type 0 = λ r. IsOwned c.args.id.slot r in subst P (sym c.retire.ensures) (record { owner = (c.self.invariant.sound.owned c.args.id.slot c.in-Some.row.now (sym c.in-Some.ensures.value)).owner; total = (c.self.invariant.sound.owned c.args.id.slot c.in-Some.row.now (sym c.in-Some.ensures.value)).total; ends = (c.self.invariant.sound.owned c.args.id.slot c.in-Some.row.now (sym c.in-Some.ensures.value)).ends })) refl refl) c.self.view_is refl (sym c.in-Some.ensures.value) refl (ap (λ (r : Row). r.cells.cells) c.retire.ensures)
