use Rattle.std.proofs.Common.{arith, sym, ◌∙◌}
use Rattle.pp_holes.proofs.Counting.{none_held}
use Rattle.pp_holes.proofs.Foreign.{all_given, none_left}
use Rattle.pp_holes.proofs.cells.give_all.Goals as goal

pub returns-clause-dropped : goal.returns-clause-dropped
returns-clause-dropped c =
    sym (all_given c.loop-index.cells.items c.args.owner c.loop-index.pool.used c.loop-index.invariant.agrees.owns
    (none_left c.loop-index.cells.items c.loop-index.index (omega (arith, c.loop-index-test.false, c.len-index-end.ensures, c.loop-index.invariant.count, c.args.cells.now.ok.0)) c.loop-index.invariant.gone))
    ∙ c.loop-index.invariant.others

pub returns-then-held-eq0-clause-dropped : goal.returns-then-held-eq0-clause-dropped
returns-then-held-eq0-clause-dropped c =
    sym (all_given c.args.cells.now.items c.args.owner c.args.pool.now.used c.requires.agrees.owns (none_held c.args.cells.now.items c.requires.agrees.fronts (sym c.requires.held ∙ c.if-held-eq0.true)))
