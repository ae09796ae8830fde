use Rattle.std.proofs.Common.{◌≡◌, ℕ, refl, sym, ◌∙◌, ap, subst}
use Rattle.std.specs.Option.{option_copied_mut}
use Rattle.slab.specs.Slab.{with_value}
use Rattle.pp_holes.specs.Places.{shown, without}
use Rattle.pp_holes.specs.Cells.{foreign}
use Rattle.pp_objects.specs.Instances.{Rows}
use Rattle.pp_objects.specs.Changes.{faces}
use Rattle.pp_objects.proofs.Slots.{none_there, set_same, set_other}
use Rattle.pp_objects.proofs.Sound.{sound-set, view-set, faces_changed}
use Rattle.pp_objects.proofs.Agreeing.{row_agrees, agree_set}
use Rattle.pp_objects.proofs.Indexing.{indexed-set}
use Rattle.pp_objects.proofs.objects.Objects.drop_chunk.Goals as goal

pub returns-in_default-clause-agrees : goal.returns-in_default-clause-agrees
returns-in_default-clause-agrees c s = absurd (none_there c.self.inside c.args.self.now c.args.id c.self.invariant.sound c.self.view_is c.requires.there (ap option_copied_mut (sym c.in_default.is) ∙ c.get_mut.ensures.value))

pub returns-in_default-clause-dropped : goal.returns-in_default-clause-dropped
returns-in_default-clause-dropped c = absurd (none_there c.self.inside c.args.self.now c.args.id c.self.invariant.sound c.self.view_is c.requires.there (ap option_copied_mut (sym c.in_default.is) ∙ c.get_mut.ensures.value))

pub drop_chunk-requires : goal.drop_chunk-requires
drop_chunk-requires c = record { agrees = row_agrees c.self.inside c.args.self.now c.args.id.slot c.in-Some.row.now c.args.pool.now.used c.self.invariant.sound c.self.view_is c.in-Some.ensures.value c.requires.agrees }

pub invariant_of-self-2 : goal.invariant_of-self-2
invariant_of-self-2 c = record {
  sound = sound-set c.self.inside (record { rows = with_value c.self.inside.rows c.args.id.slot (record c.in-Some.row.now { cells = c.drop_chunk.new.self }); order = c.self.inside.order; index = c.self.inside.index; lives = c.self.inside.lives }) c.args.id.slot c.in-Some.row.now (record c.in-Some.row.now { cells = c.drop_chunk.new.self }) c.self.invariant.sound (sym c.in-Some.ensures.value) (record { owner = c.drop_chunk.ensures.owner ∙ (c.self.invariant.sound.owned c.args.id.slot c.in-Some.row.now (sym c.in-Some.ensures.value)).owner; total = c.drop_chunk.ensures.total ∙ (c.self.invariant.sound.owned c.args.id.slot c.in-Some.row.now (sym c.in-Some.ensures.value)).total; ends = c.drop_chunk.ensures.ends }) refl refl;
  indexed = indexed-set c.self.inside.index c.self.inside.rows.slots c.args.id.slot c.in-Some.row.now (record c.in-Some.row.now { cells = c.drop_chunk.new.self }) (sym c.in-Some.ensures.value) refl refl c.self.invariant.indexed;
}

pub returns-clause-agrees : goal.returns-clause-agrees
returns-clause-agrees c =
    let P : ℕ → Type 0 = λ n. foreign n c.drop_chunk.new.pool.used ≡ foreign n c.args.pool.now.used in
    agree_set c.self.inside (record { rows = with_value c.self.inside.rows c.args.id.slot (record c.in-Some.row.now { cells = c.drop_chunk.new.self }); order = c.self.inside.order; index = c.self.inside.index; lives = c.self.inside.lives }) c.args.self.now _ c.args.id.slot (record c.in-Some.row.now { cells = c.drop_chunk.new.self }) c.args.pool.now.used c.drop_chunk.new.pool.used c.self.invariant.sound (sound-set c.self.inside (record { rows = with_value c.self.inside.rows c.args.id.slot (record c.in-Some.row.now { cells = c.drop_chunk.new.self }); order = c.self.inside.order; index = c.self.inside.index; lives = c.self.inside.lives }) c.args.id.slot c.in-Some.row.now (record c.in-Some.row.now { cells = c.drop_chunk.new.self }) c.self.invariant.sound (sym c.in-Some.ensures.value) (record { owner = c.drop_chunk.ensures.owner ∙ (c.self.invariant.sound.owned c.args.id.slot c.in-Some.row.now (sym c.in-Some.ensures.value)).owner; total = c.drop_chunk.ensures.total ∙ (c.self.invariant.sound.owned c.args.id.slot c.in-Some.row.now (sym c.in-Some.ensures.value)).total; ends = c.drop_chunk.ensures.ends }) refl refl) c.self.view_is refl
    (sym (set_same c.self.inside.rows.slots c.args.id.slot c.in-Some.row.now (record c.in-Some.row.now { cells = c.drop_chunk.new.self }) (sym c.in-Some.ensures.value))) (λ n apart. set_other c.self.inside.rows.slots c.args.id.slot n (record c.in-Some.row.now { cells = c.drop_chunk.new.self }) apart)
    c.requires.agrees c.drop_chunk.ensures.agrees (subst P (c.self.invariant.sound.owned c.args.id.slot c.in-Some.row.now (sym c.in-Some.ensures.value)).owner c.drop_chunk.ensures.others)

pub returns-clause-faces : goal.returns-clause-faces
returns-clause-faces c =
    ap (λ (w : Rows). faces w.instances)
    (view-set c.self.inside (record { rows = with_value c.self.inside.rows c.args.id.slot (record c.in-Some.row.now { cells = c.drop_chunk.new.self }); order = c.self.inside.order; index = c.self.inside.index; lives = c.self.inside.lives }) c.args.self.now c.args.id.slot c.in-Some.row.now (record c.in-Some.row.now { cells = c.drop_chunk.new.self }) (λ i. record i { cells = c.drop_chunk.new.self.cells }) c.self.invariant.sound c.self.view_is (sym c.in-Some.ensures.value) refl refl refl refl)
    ∙ faces_changed c.args.id.slot c.drop_chunk.new.self.cells c.args.self.now.instances

pub returns-clause-dropped : goal.returns-clause-dropped
returns-clause-dropped c =
    let P : ℕ → Type 0 = λ n. shown c.drop_chunk.new.pool.used ≡ without (n, c.args.index) (shown c.args.pool.now.used) in
    subst P (c.self.invariant.sound.owned c.args.id.slot c.in-Some.row.now (sym c.in-Some.ensures.value)).owner c.drop_chunk.ensures.dropped
