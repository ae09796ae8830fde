use Rattle.std.proofs.Common.{ap}
use Rattle.pp_cache.specs.Memory.{Memory}
use Rattle.pp_take.specs.Deciding.{row_at}
use Rattle.pp_state.specs.Ends.{Parts, parts}
use Rattle.pp_take.proofs.DecidingLemmas.{marked_is}
use Rattle.pp_take.proofs.deciding.mark_row.Goals as goal

pub returns-clause-is : goal.returns-clause-is
returns-clause-is c =
    let p = parts c.args.state.now in
    ap (λ (m : Memory). let q : Parts = record p { cache = m } in q)
    (marked_is c.in-Some.id (row_at c.args.i p) p.cache c.mark.new.self c.in-Some.ensures.is c.in-Some.ensures.there c.mark.ensures.marked)
