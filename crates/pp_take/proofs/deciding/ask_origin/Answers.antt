use Rattle.std.proofs.Common.{◌≡◌, ◌∙◌, ap, subst, Bool, Option, Some}
use Rattle.pp_flow.specs.declared.entry.Aim.{Aim}
use Rattle.pp_seats.specs.Decided.{asking}
use Rattle.pp_take.specs.Deciding.{Ask, aim_for, asked_by, exchange_begun}
use Rattle.pp_state.specs.Ends.{on_seat, parts}
use Rattle.pp_take.proofs.DecidingLemmas.{asked_is}
use Rattle.pp_take.proofs.deciding.ask_origin.Goals as goal

pub returns-clause-is : goal.returns-clause-is
returns-clause-is c =
    let i = c.args.i in
    let d = c.args.decision in
    let old = parts c.args.state.now in
    let left = parts c.leave_source.new.self in
    let begun = parts c.begin_exchange.new.state in
    let new = parts c.wait_for.new.state in
    let ask : Ask = (c.in-Some.errand, c.errand_for.new.text.items) in
    subst (λ (o : Option Ask). new ≡ asked_by i d o old) c.in-Some.ensures
    (asked_is i d ask old (parts c.begin_interim.new.state) left begun new c.begin_interim.ensures.is c.leave_source.ensures.is
    (c.begin_exchange.ensures.is ∙ ap (λ (aim : Aim). exchange_begun i aim ask.0 ask.1 left) (c.aim_for.ensures ∙ ap aim_for c.is_pass-passes.ensures))
    (c.wait_for.ensures.is ∙ ap (λ (passes : Bool). on_seat i (asking passes) begun) c.is_pass-passes.ensures))
