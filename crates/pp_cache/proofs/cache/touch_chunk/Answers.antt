use Rattle.std.proofs.Common.{sym, ap, ◌*◌, ◌∙◌}
use Rattle.pp_holes.specs.Places.{shown}
use Rattle.pp_cache.proofs.UsesLemmas.{none_of, used_of_none}
use Rattle.pp_cache.proofs.cache.touch_chunk.Goals as goal

pub returns-then-is_empty-clause-used : goal.returns-then-is_empty-clause-used
returns-then-is_empty-clause-used c =
    sym (used_of_none c.args.id.slot c.args.index _ c.piece-piece.result.now (shown c.args.pool.now.used) (ap (λ n. n * 4096) c.from-at.ensures) c.piece-piece.ensures.piece (none_of c.piece-piece.result.now (sym c.is_empty.ensures ∙ c.if-is_empty.true)))
