use Rattle.std.proofs.Common.{ap}
use Rattle.pp_cache.specs.Memory.{Memory}
use Rattle.pp_take.specs.Deciding.{row_at}
use Rattle.pp_state.specs.Ends.{Parts, parts}
use Rattle.pp_take.proofs.DecidingLemmas.{follows_is, row_is}
use Rattle.pp_take.proofs.deciding.follow_row.Goals as goal

pub returns-clause-is : goal.returns-clause-is
returns-clause-is c =
    let old = parts c.args.state.now in
    let begun = parts c.begin_interim.new.state in
    let follows : Parts = record begun { cache = c.follow.new.cache } in
    let answered = parts c.answer.new.state in
    let new = parts c.leave_useless.new.state in
    row_is c.args.i c.args.decision c.args.span c.in-Some.id (row_at c.args.i old) old new c.in-Some.ensures.is
    (follows_is c.args.i c.args.decision c.args.span c.in-Some.id old begun follows answered new c.begin_interim.ensures.is
    (ap (λ (m : Memory). let p : Parts = record begun { cache = m } in p) c.follow.ensures) c.answer.ensures.is c.leave_useless.ensures.is)
