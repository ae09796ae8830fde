use Rattle.std.proofs.Common.{arith, ◌≡◌, ℕ, refl, sym, ◌∙◌, ap, subst}
use Rattle.std.specs.Option.{option_copied_mut}
use Rattle.slab.specs.Slab.{with_value}
use Rattle.pp_holes.specs.Places.{shown}
use Rattle.pp_holes.specs.Adding.{added}
use Rattle.pp_holes.specs.Cells.{foreign}
use Rattle.pp_objects.specs.Instances.{Rows}
use Rattle.pp_objects.specs.Changes.{faces}
use Rattle.pp_objects.proofs.Slots.{none_there, total_seen, set_same, set_other}
use Rattle.pp_objects.proofs.Sound.{sound-set, view-set, faces_changed}
use Rattle.pp_objects.proofs.Agreeing.{row_agrees, agree_set}
use Rattle.pp_objects.proofs.Indexing.{indexed-set}
use Rattle.pp_objects.proofs.objects.Objects.add.Goals as goal

pub returns-in_default-clause-agrees : goal.returns-in_default-clause-agrees
returns-in_default-clause-agrees c s = absurd (none_there c.self.inside c.args.self.now c.args.id c.self.invariant.sound c.self.view_is c.requires.there (ap option_copied_mut (sym c.in_default.is) ∙ c.get_mut.ensures.value))

pub returns-in_default-clause-chunks : goal.returns-in_default-clause-chunks
returns-in_default-clause-chunks c = absurd (none_there c.self.inside c.args.self.now c.args.id c.self.invariant.sound c.self.view_is c.requires.there (ap option_copied_mut (sym c.in_default.is) ∙ c.get_mut.ensures.value))

pub returns-in_default-clause-joined : goal.returns-in_default-clause-joined
returns-in_default-clause-joined c = absurd (none_there c.self.inside c.args.self.now c.args.id c.self.invariant.sound c.self.view_is c.requires.there (ap option_copied_mut (sym c.in_default.is) ∙ c.get_mut.ensures.value))

pub returns-in_default-clause-ignored : goal.returns-in_default-clause-ignored
returns-in_default-clause-ignored c = absurd (none_there c.self.inside c.args.self.now c.args.id c.self.invariant.sound c.self.view_is c.requires.there (ap option_copied_mut (sym c.in_default.is) ∙ c.get_mut.ensures.value))

pub returns-in_default-clause-need_chunk : goal.returns-in_default-clause-need_chunk
returns-in_default-clause-need_chunk c = absurd (none_there c.self.inside c.args.self.now c.args.id c.self.invariant.sound c.self.view_is c.requires.there (ap option_copied_mut (sym c.in_default.is) ∙ c.get_mut.ensures.value))

pub add-requires-clause-agrees : goal.add-requires-clause-agrees
add-requires-clause-agrees c = row_agrees c.self.inside c.args.self.now c.args.id.slot c.in-Some.row.now c.args.pool.now.used c.self.invariant.sound c.self.view_is c.in-Some.ensures.value c.requires.agrees

pub add-requires-clause-within : goal.add-requires-clause-within
add-requires-clause-within c = omega (arith, c.requires.within, total_seen c.self.inside c.args.self.now c.args.id.slot c.in-Some.row.now c.self.invariant.sound c.self.view_is c.in-Some.ensures.value)

pub invariant_of-self-2 : goal.invariant_of-self-2
invariant_of-self-2 c = record {
  sound = sound-set c.self.inside (record { rows = with_value c.self.inside.rows c.args.id.slot (record c.in-Some.row.now { cells = c.add.new.self }); order = c.self.inside.order; index = c.self.inside.index; lives = c.self.inside.lives }) c.args.id.slot c.in-Some.row.now (record c.in-Some.row.now { cells = c.add.new.self }) c.self.invariant.sound (sym c.in-Some.ensures.value) (record { owner = c.add.ensures.owner ∙ (c.self.invariant.sound.owned c.args.id.slot c.in-Some.row.now (sym c.in-Some.ensures.value)).owner; total = c.add.ensures.total ∙ (c.self.invariant.sound.owned c.args.id.slot c.in-Some.row.now (sym c.in-Some.ensures.value)).total; ends = c.add.ensures.ends }) refl refl;
  indexed = indexed-set c.self.inside.index c.self.inside.rows.slots c.args.id.slot c.in-Some.row.now (record c.in-Some.row.now { cells = c.add.new.self }) (sym c.in-Some.ensures.value) refl refl c.self.invariant.indexed;
}

pub returns-clause-agrees : goal.returns-clause-agrees
returns-clause-agrees c =
    let P : ℕ → Type 0 = λ n. foreign n c.add.new.pool.used ≡ foreign n c.args.pool.now.used in
    agree_set c.self.inside (record { rows = with_value c.self.inside.rows c.args.id.slot (record c.in-Some.row.now { cells = c.add.new.self }); order = c.self.inside.order; index = c.self.inside.index; lives = c.self.inside.lives }) c.args.self.now _ c.args.id.slot (record c.in-Some.row.now { cells = c.add.new.self }) c.args.pool.now.used c.add.new.pool.used c.self.invariant.sound (sound-set c.self.inside (record { rows = with_value c.self.inside.rows c.args.id.slot (record c.in-Some.row.now { cells = c.add.new.self }); order = c.self.inside.order; index = c.self.inside.index; lives = c.self.inside.lives }) c.args.id.slot c.in-Some.row.now (record c.in-Some.row.now { cells = c.add.new.self }) c.self.invariant.sound (sym c.in-Some.ensures.value) (record { owner = c.add.ensures.owner ∙ (c.self.invariant.sound.owned c.args.id.slot c.in-Some.row.now (sym c.in-Some.ensures.value)).owner; total = c.add.ensures.total ∙ (c.self.invariant.sound.owned c.args.id.slot c.in-Some.row.now (sym c.in-Some.ensures.value)).total; ends = c.add.ensures.ends }) refl refl) c.self.view_is refl
    (sym (set_same c.self.inside.rows.slots c.args.id.slot c.in-Some.row.now (record c.in-Some.row.now { cells = c.add.new.self }) (sym c.in-Some.ensures.value))) (λ n apart. set_other c.self.inside.rows.slots c.args.id.slot n (record c.in-Some.row.now { cells = c.add.new.self }) apart)
    c.requires.agrees c.add.ensures.agrees (subst P (c.self.invariant.sound.owned c.args.id.slot c.in-Some.row.now (sym c.in-Some.ensures.value)).owner c.add.ensures.others)

pub returns-clause-faces : goal.returns-clause-faces
returns-clause-faces c =
    ap (λ (w : Rows). faces w.instances)
    (view-set c.self.inside (record { rows = with_value c.self.inside.rows c.args.id.slot (record c.in-Some.row.now { cells = c.add.new.self }); order = c.self.inside.order; index = c.self.inside.index; lives = c.self.inside.lives }) c.args.self.now c.args.id.slot c.in-Some.row.now (record c.in-Some.row.now { cells = c.add.new.self }) (λ i. record i { cells = c.add.new.self.cells }) c.self.invariant.sound c.self.view_is (sym c.in-Some.ensures.value) refl refl refl refl)
    ∙ faces_changed c.args.id.slot c.add.new.self.cells c.args.self.now.instances

pub returns-clause-chunks : goal.returns-clause-chunks
returns-clause-chunks c =
    let P : ℕ → Type 0 = λ n. shown c.add.new.pool.used ≡ (added c.args.pool.now.size n c.args.at c.args.bytes.now (shown c.args.pool.now.used)).chunks in
    subst P (c.self.invariant.sound.owned c.args.id.slot c.in-Some.row.now (sym c.in-Some.ensures.value)).owner c.add.ensures.chunks

pub returns-clause-joined : goal.returns-clause-joined
returns-clause-joined c =
    let P : ℕ → Type 0 = λ n. c.add.result.joined ≡ (added c.args.pool.now.size n c.args.at c.args.bytes.now (shown c.args.pool.now.used)).joined in
    subst P (c.self.invariant.sound.owned c.args.id.slot c.in-Some.row.now (sym c.in-Some.ensures.value)).owner c.add.ensures.joined

pub returns-clause-ignored : goal.returns-clause-ignored
returns-clause-ignored c =
    let P : ℕ → Type 0 = λ n. c.add.result.ignored ≡ (added c.args.pool.now.size n c.args.at c.args.bytes.now (shown c.args.pool.now.used)).ignored in
    subst P (c.self.invariant.sound.owned c.args.id.slot c.in-Some.row.now (sym c.in-Some.ensures.value)).owner c.add.ensures.ignored

pub returns-clause-need_chunk : goal.returns-clause-need_chunk
returns-clause-need_chunk c =
    let P : ℕ → Type 0 = λ n. c.add.result.need_chunk ≡ (added c.args.pool.now.size n c.args.at c.args.bytes.now (shown c.args.pool.now.used)).need_chunk in
    subst P (c.self.invariant.sound.owned c.args.id.slot c.in-Some.row.now (sym c.in-Some.ensures.value)).owner c.add.ensures.need_chunk
