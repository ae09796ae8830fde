use Rattle.std.proofs.Common.{sym, subst, ℕ, List}
use Rattle.pp_desk.specs.declared.desk.Desk.{Desk}
use Rattle.pp_proxy.proofs.LeavingLemmas.{regains}
use Rattle.pp_state.specs.Ends.{AreInOrder, AreSeated}
use Rattle.pp_proxy.proofs.event.lose.Goals as goal

pub returns-clause-is : goal.returns-clause-is
returns-clause-is g c = λ seated.
    let old : Desk = c.args.desk.now in
    let anew : Desk = record old { state = c.regain.new.self } in
    let again = c.regain.ensures in
    let anew_seated : AreSeated anew.state = subst (λ (ns : List ℕ). AreInOrder ns) (sym again.numbers) seated in
    record { anew = anew; regains = regains old anew.state again.is again.numbers again.rest; ends = c.gone.ensures.is anew_seated; numbers = c.gone.ensures.numbers; rest = c.gone.ensures.rest; room = c.gone.ensures.room }
