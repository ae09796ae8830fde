use Rattle.std.proofs.Common.{arith, Some, refl, sym, ◌∙◌, ap, subst}
use Rattle.std.specs.Option.{option_copied_mut}
use Rattle.slab.specs.Slab.{with_value}
use Rattle.pp_objects.specs.declared.row.Row.{Row}
use Rattle.pp_objects.specs.Instances.{followers_of}
use Rattle.pp_objects.specs.Changes.{left}
use Rattle.pp_objects.specs.Inside.{instance_as, IsOwned}
use Rattle.pp_objects.proofs.Slots.{none_there, seen_row}
use Rattle.pp_objects.proofs.Sound.{sound-set, view-set}
use Rattle.pp_objects.proofs.Agreeing.{same_faces}
use Rattle.pp_objects.proofs.Indexing.{indexed-set}
use Rattle.pp_objects.proofs.objects.Objects.unfollow.Goals as goal

pub returns-in_default-clause-left : goal.returns-in_default-clause-left
returns-in_default-clause-left c = absurd (none_there c.self.inside c.args.self.now c.args.id c.self.invariant.sound c.self.view_is c.requires.there (ap option_copied_mut (sym c.in_default.is) ∙ c.get_mut.ensures.value))

pub returns-in_default-clause-cells : goal.returns-in_default-clause-cells
returns-in_default-clause-cells c s = absurd (none_there c.self.inside c.args.self.now c.args.id c.self.invariant.sound c.self.view_is c.requires.there (ap option_copied_mut (sym c.in_default.is) ∙ c.get_mut.ensures.value))

pub remove_follower-requires : goal.remove_follower-requires
remove_follower-requires c = omega (arith, c.requires.followed, ap followers_of (seen_row c.self.inside c.args.self.now c.args.id.slot (Some c.in-Some.row.now) c.self.invariant.sound c.self.view_is c.in-Some.ensures.value))

pub invariant_of-self-2 : goal.invariant_of-self-2
invariant_of-self-2 c = record {
  sound = sound-set c.self.inside (record { rows = with_value c.self.inside.rows c.args.id.slot c.remove_follower.new.self; order = c.self.inside.order; index = c.self.inside.index; lives = c.self.inside.lives }) c.args.id.slot c.in-Some.row.now c.remove_follower.new.self c.self.invariant.sound (sym c.in-Some.ensures.value) (let P : Row → Type 0 = λ r. IsOwned c.args.id.slot r in subst P (sym c.remove_follower.ensures) (record { owner = (c.self.invariant.sound.owned c.args.id.slot c.in-Some.row.now (sym c.in-Some.ensures.value)).owner; total = (c.self.invariant.sound.owned c.args.id.slot c.in-Some.row.now (sym c.in-Some.ensures.value)).total; ends = (c.self.invariant.sound.owned c.args.id.slot c.in-Some.row.now (sym c.in-Some.ensures.value)).ends })) refl refl;
  indexed = indexed-set c.self.inside.index c.self.inside.rows.slots c.args.id.slot c.in-Some.row.now c.remove_follower.new.self (sym c.in-Some.ensures.value) (ap (λ (r : Row). r.key) c.remove_follower.ensures) (ap (λ (r : Row). r.is_retired) c.remove_follower.ensures) c.self.invariant.indexed;
}

pub returns-clause-left : goal.returns-clause-left
returns-clause-left c =
    view-set c.self.inside (record { rows = with_value c.self.inside.rows c.args.id.slot c.remove_follower.new.self; order = c.self.inside.order; index = c.self.inside.index; lives = c.self.inside.lives }) c.args.self.now c.args.id.slot c.in-Some.row.now c.remove_follower.new.self left c.self.invariant.sound c.self.view_is (sym c.in-Some.ensures.value) refl refl refl (ap (λ (r : Row). instance_as c.args.id.slot (Some r)) c.remove_follower.ensures)

pub returns-clause-cells : goal.returns-clause-cells
returns-clause-cells c = same_faces c.self.inside (record { rows = with_value c.self.inside.rows c.args.id.slot c.remove_follower.new.self; order = c.self.inside.order; index = c.self.inside.index; lives = c.self.inside.lives }) c.args.self.now _ c.args.id.slot c.in-Some.row.now c.remove_follower.new.self c.self.invariant.sound (sound-set c.self.inside (record { rows = with_value c.self.inside.rows c.args.id.slot c.remove_follower.new.self; order = c.self.inside.order; index = c.self.inside.index; lives = c.self.inside.lives }) c.args.id.slot c.in-Some.row.now c.remove_follower.new.self c.self.invariant.sound (sym c.in-Some.ensures.value) (let P : Row → Type 0 = λ r. IsOwned c.args.id.slot r in subst P (sym c.remove_follower.ensures) (record { owner = (c.self.invariant.sound.owned c.args.id.slot c.in-Some.row.now (sym c.in-Some.ensures.value)).owner; total = (c.self.invariant.sound.owned c.args.id.slot c.in-Some.row.now (sym c.in-Some.ensures.value)).total; ends = (c.self.invariant.sound.owned c.args.id.slot c.in-Some.row.now (sym c.in-Some.ensures.value)).ends })) refl refl) c.self.view_is refl (sym c.in-Some.ensures.value) refl (ap (λ (r : Row). r.cells.cells) c.remove_follower.ensures)
