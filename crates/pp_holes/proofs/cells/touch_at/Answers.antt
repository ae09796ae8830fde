use Rattle.std.proofs.Common.{sym, ◌∙◌, ap}
use Rattle.pp_holes.specs.Places.{shown}
use Rattle.pp_holes.specs.Cells.{foreign}
use Rattle.pp_pool.specs.Chunks.{Chunks}
use Rattle.pp_holes.proofs.Changes.{is_there, shows_last}
use Rattle.pp_holes.proofs.Agreement.{agrees_moved}
use Rattle.pp_holes.proofs.Foreign.{moved_foreign}
use Rattle.pp_holes.proofs.cells.touch_at.Goals as goal

pub touch-requires : goal.touch-requires
touch-requires c = is_there c.args.cells.now c.args.owner c.args.index c.in-Some.cell.now c.args.pool.now.used c.requires.agrees.owns (sym c.in-Some.ensures)

pub returns-in-Some-clause-agrees : goal.returns-in-Some-clause-agrees
returns-in-Some-clause-agrees c =
    agrees_moved c.args.cells.now c.args.owner c.args.index c.in-Some.cell.now c.args.pool.now.used c.touch.new.self.used c.requires.agrees (sym c.in-Some.ensures) c.touch.ensures.distinct
    (ap (λ (v : Chunks). v.used) c.touch.ensures.touched)

pub returns-in-Some-clause-others : goal.returns-in-Some-clause-others
returns-in-Some-clause-others c =
    ap (λ (v : Chunks). foreign c.args.owner v.used) c.touch.ensures.touched
    ∙ moved_foreign c.args.cells.now c.args.owner c.args.index c.in-Some.cell.now c.args.pool.now.used c.requires.agrees.distinct c.requires.agrees.owns (sym c.in-Some.ensures)

pub returns-in-Some-clause-touched : goal.returns-in-Some-clause-touched
returns-in-Some-clause-touched c =
    ap (λ (v : Chunks). shown v.used) c.touch.ensures.touched
    ∙ shows_last c.args.cells.now c.args.owner c.args.index c.in-Some.cell.now c.args.pool.now.used c.requires.agrees.distinct c.requires.agrees.owns (sym c.in-Some.ensures)
