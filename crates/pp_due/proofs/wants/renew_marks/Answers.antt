use Rattle.std.proofs.Common.{◌∙◌, ap, arith}
use Rattle.pp_due.specs.Waits.{woken_seat}
use Rattle.pp_state.specs.declared.state.State.{State}
use Rattle.pp_due.proofs.WaitsLemmas.{changed_all, woken_next}
use Rattle.pp_due.proofs.wants.renew_marks.Goals as goal

pub loop-i-preserved : goal.loop-i-preserved
loop-i-preserved c =
    let old : State = c.args.state.now in
    record {
      woken = woken_next c.args.now c.loop-i.i old c.loop-i.state _ c.loop-i.invariant.woken c.loop-i.invariant.rest (omega (arith, c.loop-i-test.true, c.len-i-end.ensures)) c.renew_mark.ensures.is;
      rest = ap (λ (s : State). record s { seats = old.seats }) c.renew_mark.ensures.rest ∙ c.loop-i.invariant.rest;
    }

pub returns-clause-is : goal.returns-clause-is
returns-clause-is c = changed_all (woken_seat c.args.now c.args.state.now) c.loop-i.i c.args.state.now.seats.items c.loop-i.state.seats.items (omega (arith, c.loop-i-test.false, c.len-i-end.ensures)) (omega (arith, c.loop-i.auto.i-end, c.len-i-end.ensures)) c.loop-i.invariant.woken
