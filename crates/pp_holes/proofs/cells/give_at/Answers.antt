use Rattle.std.proofs.Common.{sym, ◌∙◌, ap}
use Rattle.pp_pool.specs.Chunks.{Chunks}
use Rattle.pp_holes.specs.Places.{shown}
use Rattle.pp_holes.specs.Cells.{foreign}
use Rattle.pp_holes.proofs.Changes.{is_there, shows_without, shows_none}
use Rattle.pp_holes.proofs.Agreement.{agrees_given, agrees_same}
use Rattle.pp_holes.proofs.Foreign.{given_foreign}
use Rattle.pp_holes.proofs.cells.give_at.Goals as goal

pub give-requires : goal.give-requires
give-requires c = is_there c.args.cells.now.items c.args.owner c.args.index c.in-Some.cell c.args.pool.now.used c.requires.agrees.owns (sym c.in-Some.ensures.value)

pub returns-clause-agrees : goal.returns-clause-agrees
returns-clause-agrees c =
    agrees_given c.args.cells.now.items c.take_cell.new.cells.items c.args.owner c.args.index c.in-Some.cell c.args.pool.now.used c.give.new.self.used c.requires.agrees (sym c.in-Some.ensures.value)
    c.take_cell.ensures.items c.give.ensures.distinct (ap (λ (v : Chunks). v.used) c.give.ensures.given)

pub returns-clause-others : goal.returns-clause-others
returns-clause-others c =
    ap (λ (v : Chunks). foreign c.args.owner v.used) c.give.ensures.given
    ∙ given_foreign c.args.cells.now.items c.args.owner c.args.index c.in-Some.cell c.args.pool.now.used c.requires.agrees.distinct c.requires.agrees.owns (sym c.in-Some.ensures.value)

pub returns-clause-dropped : goal.returns-clause-dropped
returns-clause-dropped c =
    ap (λ (v : Chunks). shown v.used) c.give.ensures.given
    ∙ shows_without c.args.cells.now.items c.args.owner c.args.index c.in-Some.cell c.args.pool.now.used c.requires.agrees.distinct c.requires.agrees.owns (sym c.in-Some.ensures.value)

pub returns-in_default-clause-agrees : goal.returns-in_default-clause-agrees
returns-in_default-clause-agrees c =
    agrees_same c.args.cells.now.items c.take_cell.new.cells.items c.args.owner c.args.index c.args.pool.now.used c.requires.agrees (sym c.take_cell.ensures.value ∙ c.in_default.is) c.take_cell.ensures.items

pub returns-in_default-clause-dropped : goal.returns-in_default-clause-dropped
returns-in_default-clause-dropped c =
    shows_none c.args.cells.now.items c.args.owner c.args.index c.args.pool.now.used c.requires.agrees.owns (sym c.take_cell.ensures.value ∙ c.in_default.is)
