use Rattle.pp_state.specs.Ends.{parts}
use Rattle.pp_take.proofs.DecidingLemmas.{answered_is}
use Rattle.pp_take.proofs.deciding.answer.Goals as goal

pub returns-clause-is : goal.returns-clause-is
returns-clause-is c =
    answered_is c.args.i c.args.decision c.args.source c.args.span (parts c.args.state.now) (parts c.leave_source.new.self) (parts c.decide_at.new.state) c.leave_source.ensures.is c.decide_at.ensures.is
