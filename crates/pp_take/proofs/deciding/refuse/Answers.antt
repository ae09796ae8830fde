use Rattle.std.proofs.Common.{ap, subst}
use Rattle.pp_take.specs.Deciding.{GetsPage}
use Rattle.pp_state.specs.Ends.{Parts, parts}
use Rattle.pp_take.proofs.DecidingLemmas.{left_all_is}
use Rattle.pp_take.proofs.deciding.refuse.Goals as goal

pub returns-clause-is : goal.returns-clause-is
returns-clause-is c =
    let new = parts c.give_page.new.state in
    subst (λ (p : Parts). GetsPage c.args.status c.args.i p new)
    (left_all_is c.args.i (parts c.args.state.now) (parts c.begin_interim.new.state) (parts c.leave_source.new.self) (parts c.leave_exchange.new.self) c.begin_interim.ensures.is c.leave_source.ensures.is c.leave_exchange.ensures.is)
    (record { seat = c.give_page.ensures.seat; rest = ap parts c.give_page.ensures.rest })
