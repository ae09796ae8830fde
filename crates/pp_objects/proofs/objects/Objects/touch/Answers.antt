use Rattle.std.proofs.Common.{◌≡◌, ◌<◌, ℕ, List, Option, refl, sym, ◌∙◌, ap, subst}
use Rattle.std.specs.Option.{option_copied}
use Rattle.pp_holes.specs.declared.cell.Cell.{Cell}
use Rattle.pp_holes.specs.Places.{shown, touched}
use Rattle.pp_holes.specs.Cells.{Agrees, foreign, cell_of, filled_of}
use Rattle.pp_objects.proofs.Slots.{none_there, cells_seen}
use Rattle.pp_objects.proofs.Agreeing.{row_agrees, all_agree}
use Rattle.pp_objects.proofs.objects.Objects.touch.Goals as goal

pub returns-in_default-clause-touched : goal.returns-in_default-clause-touched
returns-in_default-clause-touched c = absurd (none_there c.self.inside c.args.self.now c.args.id c.self.invariant.sound c.self.view_is c.requires.there (ap option_copied (sym c.in_default.is) ∙ c.get.ensures))

pub touch-requires-clause-agrees : goal.touch-requires-clause-agrees
touch-requires-clause-agrees c = row_agrees c.self.inside c.args.self.now c.args.id.slot c.in-Some.row.now c.args.pool.now.used c.self.invariant.sound c.self.view_is c.in-Some.ensures c.requires.agrees

pub touch-requires-clause-in_memory : goal.touch-requires-clause-in_memory
touch-requires-clause-in_memory c =
    let P : List (Option Cell) → Type 0 = λ cs. 0 < filled_of (cell_of cs c.args.index) in
    subst P (cells_seen c.self.inside c.args.self.now c.args.id.slot c.in-Some.row.now c.self.invariant.sound c.self.view_is c.in-Some.ensures) c.requires.in_memory

pub returns-clause-agrees : goal.returns-clause-agrees
returns-clause-agrees c =
    let owner = (c.self.invariant.sound.owned c.args.id.slot c.in-Some.row.now (sym c.in-Some.ensures)).owner in
    let P : ℕ → Type 0 = λ n. Agrees n c.in-Some.row.now.cells.cells c.touch.new.pool.used in
    let Q : List (Option Cell) → Type 0 = λ cs. Agrees c.args.id.slot cs c.touch.new.pool.used in
    let R : ℕ → Type 0 = λ n. foreign n c.touch.new.pool.used ≡ foreign n c.args.pool.now.used in
    all_agree c.args.self.now.instances c.args.self.now.instances c.args.id.slot c.args.pool.now.used c.touch.new.pool.used c.requires.agrees
    (subst Q (sym (cells_seen c.self.inside c.args.self.now c.args.id.slot c.in-Some.row.now c.self.invariant.sound c.self.view_is c.in-Some.ensures)) (subst P owner c.touch.ensures.agrees))
    (subst R owner c.touch.ensures.others) (λ t apart. refl)

pub returns-clause-touched : goal.returns-clause-touched
returns-clause-touched c =
    let P : ℕ → Type 0 = λ n. shown c.touch.new.pool.used ≡ touched (n, c.args.index) (shown c.args.pool.now.used) in
    subst P (c.self.invariant.sound.owned c.args.id.slot c.in-Some.row.now (sym c.in-Some.ensures)).owner c.touch.ensures.touched
