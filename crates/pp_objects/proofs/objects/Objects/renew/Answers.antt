use Rattle.std.proofs.Common.{◌≡◌, List, true, Some, refl, sym, ◌∙◌, ap, subst}
use Rattle.pp_text.specs.Fields.{Field}
use Rattle.pp_objects.specs.Kept.{has_room}
use Rattle.std.specs.Option.{option_copied_mut}
use Rattle.slab.specs.Slab.{with_value}
use Rattle.pp_objects.specs.declared.row.Row.{Row}
use Rattle.pp_objects.specs.declared.objects.Objects.TheInside.{Inside}
use Rattle.pp_objects.specs.Instances.{fields_of, is_life}
use Rattle.pp_objects.specs.Changes.{refreshed}
use Rattle.pp_objects.specs.Inside.{instance_as, IsOwned}
use Rattle.pp_objects.proofs.Slots.{none_there, seen_row, set_same}
use Rattle.pp_objects.proofs.Sound.{sound-set, view-set}
use Rattle.pp_objects.proofs.Agreeing.{same_faces}
use Rattle.pp_objects.proofs.Indexing.{indexed-set}
use Rattle.pp_objects.proofs.objects.Objects.renew.Goals as goal

pub returns-in_default-clause-refreshed : goal.returns-in_default-clause-refreshed
returns-in_default-clause-refreshed c = absurd (none_there c.self.inside c.args.self.now c.args.id c.self.invariant.sound c.self.view_is c.requires.there (ap option_copied_mut (sym c.in_default.is) ∙ c.get_mut.ensures.value))

pub refresh-requires : goal.refresh-requires
refresh-requires c =
    let P : List Field → Type 0 = λ fs. has_room fs c.args.fields.now c.args.times ≡ true in
    subst P (ap fields_of (seen_row c.self.inside c.args.self.now c.args.id.slot (Some c.in-Some.row.now) c.self.invariant.sound c.self.view_is c.in-Some.ensures.value)) c.requires.room

pub invariant_of-self-2 : goal.invariant_of-self-2
invariant_of-self-2 c = record {
  sound = sound-set c.self.inside (record { rows = with_value c.self.inside.rows c.args.id.slot c.refresh.new.self; order = c.self.inside.order; index = c.self.inside.index; lives = c.self.inside.lives }) c.args.id.slot c.in-Some.row.now c.refresh.new.self c.self.invariant.sound (sym c.in-Some.ensures.value) (let P : Row → Type 0 = λ r. IsOwned c.args.id.slot r in subst P (sym c.refresh.ensures) (record { owner = (c.self.invariant.sound.owned c.args.id.slot c.in-Some.row.now (sym c.in-Some.ensures.value)).owner; total = (c.self.invariant.sound.owned c.args.id.slot c.in-Some.row.now (sym c.in-Some.ensures.value)).total; ends = (c.self.invariant.sound.owned c.args.id.slot c.in-Some.row.now (sym c.in-Some.ensures.value)).ends })) refl refl;
  indexed = indexed-set c.self.inside.index c.self.inside.rows.slots c.args.id.slot c.in-Some.row.now c.refresh.new.self (sym c.in-Some.ensures.value) (ap (λ (r : Row). r.key) c.refresh.ensures) (ap (λ (r : Row). r.is_retired) c.refresh.ensures) c.self.invariant.indexed;
}

pub returns-clause-refreshed : goal.returns-clause-refreshed
returns-clause-refreshed c =
    view-set c.self.inside (record { rows = with_value c.self.inside.rows c.args.id.slot c.refresh.new.self; order = c.self.inside.order; index = c.self.inside.index; lives = c.self.inside.lives }) c.args.self.now c.args.id.slot c.in-Some.row.now c.refresh.new.self (refreshed c.args.fields.now c.args.times) c.self.invariant.sound c.self.view_is (sym c.in-Some.ensures.value) refl refl refl (ap (λ (r : Row). instance_as c.args.id.slot (Some r)) c.refresh.ensures)

pub returns-clause-cells : goal.returns-clause-cells
returns-clause-cells c = same_faces c.self.inside (record { rows = with_value c.self.inside.rows c.args.id.slot c.refresh.new.self; order = c.self.inside.order; index = c.self.inside.index; lives = c.self.inside.lives }) c.args.self.now _ c.args.id.slot c.in-Some.row.now c.refresh.new.self c.self.invariant.sound (sound-set c.self.inside (record { rows = with_value c.self.inside.rows c.args.id.slot c.refresh.new.self; order = c.self.inside.order; index = c.self.inside.index; lives = c.self.inside.lives }) c.args.id.slot c.in-Some.row.now c.refresh.new.self c.self.invariant.sound (sym c.in-Some.ensures.value) (let P : Row → Type 0 = λ r. IsOwned c.args.id.slot r in subst P (sym c.refresh.ensures) (record { owner = (c.self.invariant.sound.owned c.args.id.slot c.in-Some.row.now (sym c.in-Some.ensures.value)).owner; total = (c.self.invariant.sound.owned c.args.id.slot c.in-Some.row.now (sym c.in-Some.ensures.value)).total; ends = (c.self.invariant.sound.owned c.args.id.slot c.in-Some.row.now (sym c.in-Some.ensures.value)).ends })) refl refl) c.self.view_is refl (sym c.in-Some.ensures.value) refl (ap (λ (r : Row). r.cells.cells) c.refresh.ensures)

pub returns-clause-there : goal.returns-clause-there
returns-clause-there c =
    let after : Inside = record { rows = with_value c.self.inside.rows c.args.id.slot c.refresh.new.self; order = c.self.inside.order; index = c.self.inside.index; lives = c.self.inside.lives } in
    let sound = sound-set c.self.inside (record { rows = with_value c.self.inside.rows c.args.id.slot c.refresh.new.self; order = c.self.inside.order; index = c.self.inside.index; lives = c.self.inside.lives }) c.args.id.slot c.in-Some.row.now c.refresh.new.self c.self.invariant.sound (sym c.in-Some.ensures.value) (let P : Row → Type 0 = λ r. IsOwned c.args.id.slot r in subst P (sym c.refresh.ensures) (record { owner = (c.self.invariant.sound.owned c.args.id.slot c.in-Some.row.now (sym c.in-Some.ensures.value)).owner; total = (c.self.invariant.sound.owned c.args.id.slot c.in-Some.row.now (sym c.in-Some.ensures.value)).total; ends = (c.self.invariant.sound.owned c.args.id.slot c.in-Some.row.now (sym c.in-Some.ensures.value)).ends })) refl refl in
    let here = sym (set_same c.self.inside.rows.slots c.args.id.slot c.in-Some.row.now c.refresh.new.self (sym c.in-Some.ensures.value)) in
    ap (is_life c.args.id.life) (seen_row after _ c.args.id.slot (Some c.refresh.new.self) sound refl here)
    ∙ ap (λ (r : Row). is_life c.args.id.life (Some (instance_as c.args.id.slot (Some r)))) c.refresh.ensures
    ∙ sym (ap (is_life c.args.id.life) (seen_row c.self.inside c.args.self.now c.args.id.slot (Some c.in-Some.row.now) c.self.invariant.sound c.self.view_is c.in-Some.ensures.value))
    ∙ c.requires.there
