use Rattle.std.proofs.Common.{arith, length, refl, ◌∙◌, ap}
use Rattle.pp_holes.specs.Places.{shown}
use Rattle.pp_holes.specs.Cells.{foreign}
use Rattle.pp_holes.proofs.Joins.{shows_opened, taken_bytes}
use Rattle.pp_holes.proofs.Agreement.{agrees_begun, used_begun}
use Rattle.pp_holes.proofs.Foreign.{opened_foreign}
use Rattle.pp_holes.proofs.join.begin.Goals as goal

pub fill-requires-clause-fits : goal.fill-requires-clause-fits
fill-requires-clause-fits c =
    rw c.in-Some.ensures.taken (rw (taken_bytes c.args.owner c.args.index c.in-Some.chunk c.args.pool.now.used c.in-Some.ensures.is_new) (omega (arith, c.requires.fits)))

pub returns-clause-agrees : goal.returns-clause-agrees
returns-clause-agrees c =
    agrees_begun c.args.cells.now.items c.args.owner c.args.index (record { chunk = c.in-Some.chunk; filled = length c.args.run.now }) c.args.run.now c.args.pool.now.used c.fill.new.self.used
    c.requires.agrees c.requires.absent c.requires.inside c.in-Some.ensures.is_new refl c.requires.some c.requires.fits c.fill.ensures.distinct (used_begun _ _ _ c.in-Some.chunk c.args.owner c.args.index c.args.run.now c.fill.ensures.filled c.in-Some.ensures.taken)

pub returns-clause-others : goal.returns-clause-others
returns-clause-others c =
    ap (foreign c.args.owner) (used_begun _ _ _ c.in-Some.chunk c.args.owner c.args.index c.args.run.now c.fill.ensures.filled c.in-Some.ensures.taken)
    ∙ opened_foreign c.args.cells.now.items c.args.owner c.args.index c.in-Some.chunk c.args.run.now c.args.pool.now.used c.requires.agrees.owns c.requires.absent c.in-Some.ensures.is_new

pub returns-clause-joined : goal.returns-clause-joined
returns-clause-joined c _ =
    ap shown (used_begun _ _ _ c.in-Some.chunk c.args.owner c.args.index c.args.run.now c.fill.ensures.filled c.in-Some.ensures.taken)
    ∙ shows_opened c.args.cells.now.items c.args.owner c.args.index c.in-Some.chunk c.args.run.now c.args.pool.now.used c.requires.agrees.owns c.requires.absent c.in-Some.ensures.is_new
