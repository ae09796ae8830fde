use Rattle.std.proofs.Common.{◌∙◌, ap, arith}
use Rattle.std.specs.Prelude.{vec_capacity}
use Rattle.pp_desk.specs.Closings.{sides}
use Rattle.pp_proxy.specs.Ticks.{ticked}
use Rattle.pp_proxy.proofs.TickLemmas.{all_awake, all_else, all_ticked, with_clock}
use Rattle.pp_desk.specs.declared.desk.Desk.{Desk}
use Rattle.pp_proxy.proofs.event.tick.Goals as goal

pub returns-clause-is : goal.returns-clause-is
returns-clause-is c = λ seated.
    let old : Desk = c.args.desk.now in
    let mark = c.mark_where.ensures in
    let second = c.begin_second.ensures in
    all_ticked c.is_leap.result c.max-now.result old c.mark_where.new.self c.begin_second.new.state mark.seats mark.rest second.seats second.rest (sides c.close_idle.new.desk) mark.peers c.is_leap.ensures c.close_idle.ensures.is seated
    ∙ ap (λ n. ticked n old.state (sides old)) c.max-now.ensures

pub returns-clause-awake : goal.returns-clause-awake
returns-clause-awake c =
    let mark = c.mark_where.ensures in
    let second = c.begin_second.ensures in
    all_awake c.is_leap.result c.max-now.result c.args.desk.now c.mark_where.new.self c.begin_second.new.state mark.seats mark.rest second.seats second.rest c.close_idle.new.desk second.awake c.close_idle.ensures.rest

pub returns-clause-room : goal.returns-clause-room
returns-clause-room c =
    omega (arith, c.begin_second.ensures.room, ap (λ (d : Desk). vec_capacity d.state.awake) c.mark_where.ensures.rest, ap (λ (d : Desk). vec_capacity d.state.awake) c.close_idle.ensures.rest)

pub returns-clause-rest : goal.returns-clause-rest
returns-clause-rest c =
    let old : Desk = c.args.desk.now in
    let mark = c.mark_where.ensures in
    let second = c.begin_second.ensures in
    all_else c.is_leap.result c.max-now.result old c.mark_where.new.self c.begin_second.new.state mark.seats mark.rest second.seats second.rest c.close_idle.new.desk c.close_idle.ensures.rest
    ∙ ap (λ n. record old { state = with_clock n old.state }) c.max-now.ensures
