use Rattle.std.proofs.Common.{◌∙◌, ap}
use Rattle.pp_seats.specs.Accounts.{decided}
use Rattle.pp_state.specs.Accounts.{accounts_at}
use Rattle.pp_state.specs.declared.state.State.{State}
use Rattle.pp_take.proofs.DecidingLemmas.{taken_is, with_seats}
use Rattle.pp_take.proofs.deciding.take.Goals as goal

pub returns-clause-is : goal.returns-clause-is
returns-clause-is c =
    let marked = c.mark_row_for.new.state in
    let told = c.account_for.new.self in
    taken_is c.args.i c.args.decision c.args.state.now marked told c.carry_out.new.state c.mark_row_for.ensures.is
    (with_seats marked told (accounts_at c.args.i (decided c.args.decision) marked.seats.items) c.account_for.ensures.is c.account_for.ensures.rest)
    (ap (λ (s : State). s.name) c.account_for.ensures.rest ∙ ap (λ (s : State). s.name) c.mark_row_for.ensures.rest) c.carry_out.ensures.is
