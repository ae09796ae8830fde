use Rattle.std.proofs.Common.{arith, ◌≡◌, ◌<◌, ◌+◌, length, Some, refl, sym, ◌∙◌, ap}
use Rattle.pp_pool.specs.Chunks.{Chunks, numbers, is_in}
use Rattle.pp_holes.specs.Places.{shown}
use Rattle.pp_holes.specs.Cells.{cell_of, filled_of, foreign}
use Rattle.pp_holes.proofs.Changes.{is_there, fills, in_table}
use Rattle.pp_holes.proofs.Joins.{shows_extended, still_in, changed_twice}
use Rattle.pp_holes.proofs.Agreement.{agrees_extended, used_extended, some_filled}
use Rattle.pp_holes.proofs.Foreign.{extended_foreign}
use Rattle.pp_holes.proofs.join.extend.Goals as goal

pub fill-requires-clause-used : goal.fill-requires-clause-used
fill-requires-clause-used c = is_there c.args.cells.now.items c.args.owner c.args.index c.in-Some.cell c.args.pool.now.used c.requires.agrees.owns (sym c.in-Some.ensures.value)

pub fill-requires-clause-fits : goal.fill-requires-clause-fits
fill-requires-clause-fits c =
    omega (
      arith,
      c.requires.fits,
      ap filled_of (sym c.in-Some.ensures.value),
      fills c.args.cells.now.items c.args.owner c.args.index c.in-Some.cell c.args.pool.now.used c.requires.agrees.owns (sym c.in-Some.ensures.value) c.requires.agrees.distinct,
    )

pub touch-requires : goal.touch-requires
touch-requires c =
    ap (λ (v : Chunks). is_in c.in-Some.cell.chunk (numbers v.used)) c.fill.ensures.filled
    ∙ still_in c.in-Some.cell.chunk c.in-Some.cell.chunk c.args.fresh.now c.args.pool.now.used
    ∙ is_there c.args.cells.now.items c.args.owner c.args.index c.in-Some.cell c.args.pool.now.used c.requires.agrees.owns (sym c.in-Some.ensures.value)

pub returns-clause-agrees : goal.returns-clause-agrees
returns-clause-agrees c =
    let at : cell_of c.args.cells.now.items c.args.index ≡ Some c.in-Some.cell = sym c.in-Some.ensures.value in
    let some : 0 < c.in-Some.cell.filled = some_filled c.args.cells.now.items c.args.owner c.args.index c.in-Some.cell c.args.pool.now.used c.requires.agrees at in
    agrees_extended c.args.cells.now.items _ c.args.owner c.args.index c.in-Some.cell (record { chunk = c.in-Some.cell.chunk; filled = c.in-Some.cell.filled + length c.args.fresh.now }) c.args.fresh.now c.args.pool.now.used c.touch.new.self.used
    c.requires.agrees at
    (changed_twice c.args.cells.now.items c.take_cell.new.cells.items c.args.index _ (in_table c.args.cells.now.items c.args.index c.in-Some.cell at) c.take_cell.ensures.items)
    refl refl (omega (arith, some)) (omega (arith, c.requires.fits, ap filled_of at)) c.touch.ensures.distinct (used_extended _ _ _ c.in-Some.cell.chunk c.args.fresh.now c.touch.ensures.touched c.fill.ensures.filled)

pub returns-clause-joined : goal.returns-clause-joined
returns-clause-joined c =
    ap shown (used_extended _ _ _ c.in-Some.cell.chunk c.args.fresh.now c.touch.ensures.touched c.fill.ensures.filled)
    ∙ shows_extended c.args.cells.now.items c.args.owner c.args.index c.in-Some.cell c.args.fresh.now c.args.pool.now.used c.requires.agrees.distinct c.requires.agrees.owns (sym c.in-Some.ensures.value)

pub returns-clause-others : goal.returns-clause-others
returns-clause-others c =
    ap (foreign c.args.owner) (used_extended _ _ _ c.in-Some.cell.chunk c.args.fresh.now c.touch.ensures.touched c.fill.ensures.filled)
    ∙ extended_foreign c.args.cells.now.items c.args.owner c.args.index c.in-Some.cell c.args.fresh.now c.args.pool.now.used c.requires.agrees.distinct c.requires.agrees.owns (sym c.in-Some.ensures.value)
