use Rattle.std.proofs.Common.{arith, ◌≡◌, ◌<◌, ◌+◌, ◌++◌, ◌∷◌, [], length, ℕ, Option, None, Some, refl, sym, ◌∙◌, ap, subst}
use Rattle.std.proofs.lemmas.List.{length-map}
use Rattle.slab.specs.Slab.{Updates}
use Rattle.pp_objects.specs.declared.id.ObjectId.{ObjectId}
use Rattle.pp_objects.specs.Instances.{Rows, row_of}
use Rattle.pp_objects.specs.Changes.{set_aside}
use Rattle.pp_objects.specs.Kept.{kept_of}
use Rattle.pp_objects.specs.Inside.{row_at, instance_at, is_at, IsAside}
use Rattle.pp_objects.proofs.Slots.{seen_row}
use Rattle.pp_objects.proofs.Sound.{sound-same, sound-joined, view-joined, sound-aside, view-aside}
use Rattle.pp_objects.proofs.Settling.{new_as, new_owned}
use Rattle.pp_objects.proofs.Making.{former_there, indexed-made}
use Rattle.pp_objects.proofs.objects.Objects.make_row.Goals as goal

pub invariant_of-self : goal.invariant_of-self
invariant_of-self c = record {
  sound = sound-same c.self.inside _ c.self.invariant.sound refl refl;
  indexed = λ key n. c.self.invariant.indexed key n ∙ ap (is_at n) (sym (c.in_err-put.ensures.err key));
}

pub invariant_of-self-2 : goal.invariant_of-self-2
invariant_of-self-2 c =
    let slot : c.insert_reserved.result ≡ c.in_ok-slot.slot = c.insert_reserved.ensures.key ∙ sym (c.in_ok-slot.ensures.slot ∙ c.vacant_key.ensures.value) in
    let U : ℕ → Type 0 = λ n. Updates c.self.inside.rows c.insert_reserved.new.self n (Some c.in_ok-row.row) in
    let up = subst U slot c.insert_reserved.ensures.updates in
    let vacant : row_at c.self.inside.rows.slots c.in_ok-slot.slot ≡ None = ap (row_at c.self.inside.rows.slots) (sym slot) ∙ c.insert_reserved.ensures.was_vacant in
    let few : length c.self.inside.order.items < 1345 = omega (arith, c.requires.few, ap (λ (w : Rows). length w.instances) c.self.view_is, length-map c.self.inside.order.items (instance_at c.self.inside.rows.slots)) in
    let own = new_owned c.in_ok-row.row c.in_ok-slot.slot c.self.inside.lives c.args.key.now c.args.version.now (kept_of c.args.fields.now c.args.times) c.args.times c.in_ok-row.ensures in
    let sound = sound-joined c.self.inside (record { rows = c.insert_reserved.new.self; order = c.push_reserved.new.self; index = c.put.new.index; lives = c.self.inside.lives + 1 }) c.in_ok-slot.slot c.in_ok-row.row c.self.invariant.sound vacant up.changed up.others own few c.in_ok-slot.ensures.low c.insert_reserved.ensures.len c.insert_reserved.ensures.capacity c.push_reserved.ensures.items c.push_reserved.ensures.capacity in
    let former = former_there c.self.inside c.args.self.now c.args.key.now c.self.invariant.sound c.self.invariant.indexed c.self.view_is c.in_ok-slot.slot vacant c.insert_reserved.new.self c.put_aside.new.rows up.others in
    let A : Option ObjectId → Type 0 = λ x. IsAside c.insert_reserved.new.self c.put_aside.new.rows x in
    let aside = subst A c.requires.former c.put_aside.ensures in
    record {
      sound = sound-aside (record { rows = c.insert_reserved.new.self; order = c.push_reserved.new.self; index = c.put.new.index; lives = c.self.inside.lives + 1 }) (record { rows = c.put_aside.new.rows; order = c.push_reserved.new.self; index = c.put.new.index; lives = c.self.inside.lives + 1 }) (row_of c.args.key.now c.args.self.now.instances) sound former aside refl;
      indexed = indexed-made c.self.inside c.args.self.now c.args.key.now c.self.invariant.sound c.self.invariant.indexed c.self.view_is c.in_ok-slot.slot vacant c.insert_reserved.new.self c.put_aside.new.rows up.others aside c.put.new.index c.in_ok-row.row up.changed c.in_ok-row.ensures.key c.in_ok-row.ensures.current c.in_ok-put.ensures.ok;
    }

pub returns-clause-vacant : goal.returns-clause-vacant
returns-clause-vacant c =
    let slot : c.insert_reserved.result ≡ c.in_ok-slot.slot = c.insert_reserved.ensures.key ∙ sym (c.in_ok-slot.ensures.slot ∙ c.vacant_key.ensures.value) in
    let U : ℕ → Type 0 = λ n. Updates c.self.inside.rows c.insert_reserved.new.self n (Some c.in_ok-row.row) in
    let up = subst U slot c.insert_reserved.ensures.updates in
    let vacant : row_at c.self.inside.rows.slots c.in_ok-slot.slot ≡ None = ap (row_at c.self.inside.rows.slots) (sym slot) ∙ c.insert_reserved.ensures.was_vacant in
    seen_row c.self.inside c.args.self.now c.in_ok-slot.slot None c.self.invariant.sound c.self.view_is (sym vacant)

pub returns-clause-made : goal.returns-clause-made
returns-clause-made c =
    let slot : c.insert_reserved.result ≡ c.in_ok-slot.slot = c.insert_reserved.ensures.key ∙ sym (c.in_ok-slot.ensures.slot ∙ c.vacant_key.ensures.value) in
    let U : ℕ → Type 0 = λ n. Updates c.self.inside.rows c.insert_reserved.new.self n (Some c.in_ok-row.row) in
    let up = subst U slot c.insert_reserved.ensures.updates in
    let vacant : row_at c.self.inside.rows.slots c.in_ok-slot.slot ≡ None = ap (row_at c.self.inside.rows.slots) (sym slot) ∙ c.insert_reserved.ensures.was_vacant in
    let few : length c.self.inside.order.items < 1345 = omega (arith, c.requires.few, ap (λ (w : Rows). length w.instances) c.self.view_is, length-map c.self.inside.order.items (instance_at c.self.inside.rows.slots)) in
    let own = new_owned c.in_ok-row.row c.in_ok-slot.slot c.self.inside.lives c.args.key.now c.args.version.now (kept_of c.args.fields.now c.args.times) c.args.times c.in_ok-row.ensures in
    let sound = sound-joined c.self.inside (record { rows = c.insert_reserved.new.self; order = c.push_reserved.new.self; index = c.put.new.index; lives = c.self.inside.lives + 1 }) c.in_ok-slot.slot c.in_ok-row.row c.self.invariant.sound vacant up.changed up.others own few c.in_ok-slot.ensures.low c.insert_reserved.ensures.len c.insert_reserved.ensures.capacity c.push_reserved.ensures.items c.push_reserved.ensures.capacity in
    let former = former_there c.self.inside c.args.self.now c.args.key.now c.self.invariant.sound c.self.invariant.indexed c.self.view_is c.in_ok-slot.slot vacant c.insert_reserved.new.self c.put_aside.new.rows up.others in
    let A : Option ObjectId → Type 0 = λ x. IsAside c.insert_reserved.new.self c.put_aside.new.rows x in
    let aside = subst A c.requires.former c.put_aside.ensures in
    let view = view-joined c.self.inside (record { rows = c.insert_reserved.new.self; order = c.push_reserved.new.self; index = c.put.new.index; lives = c.self.inside.lives + 1 }) c.args.self.now c.in_ok-slot.slot c.in_ok-row.row c.self.invariant.sound c.self.view_is vacant up.changed up.others c.push_reserved.ensures.items in
    ap (λ (w : Rows). w.instances) (view-aside (record { rows = c.insert_reserved.new.self; order = c.push_reserved.new.self; index = c.put.new.index; lives = c.self.inside.lives + 1 }) (record { rows = c.put_aside.new.rows; order = c.push_reserved.new.self; index = c.put.new.index; lives = c.self.inside.lives + 1 }) _ (row_of c.args.key.now c.args.self.now.instances) sound view former aside refl refl)
    ∙ ap (λ i. set_aside (row_of c.args.key.now c.args.self.now.instances) (c.args.self.now.instances ++ i ∷ [])) (new_as c.in_ok-row.row (record { slot = c.in_ok-slot.slot; life = c.self.inside.lives }) c.args.key.now c.args.version.now (kept_of c.args.fields.now c.args.times) c.args.times c.in_ok-row.ensures)
