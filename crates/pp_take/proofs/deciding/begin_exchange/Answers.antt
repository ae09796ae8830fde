use Rattle.pp_state.specs.Ends.{parts}
use Rattle.pp_take.proofs.DecidingLemmas.{begun_is}
use Rattle.pp_take.proofs.deciding.begin_exchange.Goals as goal

pub returns-clause-is : goal.returns-clause-is
returns-clause-is c =
    begun_is c.args.i c.args.aim c.args.errand.now c.args.text.now.items (parts c.args.state.now) (parts c.leave_exchange.new.self) (parts c.begin_at.new.state) c.leave_exchange.ensures.is c.begin_at.ensures.is
