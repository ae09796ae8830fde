use Rattle.pp_steps.proofs.EvictingLemmas.{way_left}
use Rattle.pp_steps.proofs.evict.give_way.Goals as goal

pub returns-in-Some-clause-is : goal.returns-in-Some-clause-is
returns-in-Some-clause-is g c =
    way_left c.args.decision c.args.i c.args.state.now c.in-Some.id c.forget.new.self c.in-Some.ensures.row c.in-Some.ensures.there c.forget.ensures.forgotten
