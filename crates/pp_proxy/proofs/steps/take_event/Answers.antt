use Rattle.std.proofs.Common.{◌∙◌, refl, sym, subst, le_trans, ℕ, List}
use Rattle.pp_desk.specs.declared.desk.Desk.{Desk}
use Rattle.pp_proxy.proofs.LeavingLemmas.{leaves_on, left_numbers, regains}
use Rattle.pp_proxy.specs.Moving.{moving, turning}
use Rattle.pp_state.specs.Ends.{AreInOrder, AreSeated}
use Rattle.pp_state.specs.declared.state.State.{State}
use Rattle.pp_shelf.proofs.SteadyLemmas.{steady_then, steady_then_quiet}
use Rattle.pp_proxy.proofs.steps.take_event.Goals as goal

pub returns-clause-steady : goal.returns-clause-steady
returns-clause-steady g c = steady_then_quiet (steady_then (steady_then_quiet c.handle.ensures.steady c.leave_memory.ensures.quiet) c.keep.ensures.steady) c.settle.ensures.quiet

pub returns-clause-is : goal.returns-clause-is
returns-clause-is g c =
    let top = g.W.Logged.top in
    let log = g.W.Logged.log in
    let faults = g.W.Logged.faults in
    let event = c.handle.new in
    let anew : State = c.regain.new.self in
    let left : State = c.leave_memory.new.state in
    let given : State = c.give_up_asks.new.state in
    let away = c.leave_memory.new.world in
    let kept = c.keep.new in
    let handled : Desk = event.desk in
    let x = moving handled event.links (top event.world) in
    record {
      handled = turning event.shelf handled event.links (top event.world) (log event.world) (faults event.world);
      left = turning event.shelf (record handled { state = given }) event.links (top away) (log away) (faults away);
      kept = turning kept.shelf kept.desk event.links (top kept.world) (log kept.world) (faults kept.world);
      handles = c.handle.ensures.is;
      handled_bounded = c.bounds.ensures;
      handled_linked = c.handle.ensures.linked;
      leaves = λ seated.
          let numbers = left_numbers anew left c.leave_memory.ensures.is in
          let left_seated : AreSeated left = subst (λ (ns : List ℕ). AreInOrder ns) (sym (numbers ∙ c.regain.ensures.numbers)) seated in
          leaves_on x anew left given (top away) (log event.world) (log away) (faults event.world) (faults away) c.leave_memory.ensures.top (regains handled anew c.regain.ensures.is c.regain.ensures.numbers c.regain.ensures.rest)
          c.leave_memory.ensures.is c.leave_memory.ensures.told c.leave_memory.ensures.faults (c.give_up_asks.ensures.is left_seated) c.give_up_asks.ensures.numbers c.give_up_asks.ensures.astray c.give_up_asks.ensures.rest;
      leaves_shelf = refl;
      left_bounded = c.bounds-2.ensures;
      keeps = record { is = c.keep.ensures.is; rest = c.keep.ensures.rest; long = c.keep.ensures.long; links = refl; top = c.keep.ensures.top; count = c.keep.ensures.faults };
      kept_bounded = c.bounds-3.ensures;
      settles = c.settle.ensures.is;
      settles_shelf = refl;
      steady = steady_then_quiet (steady_then (steady_then_quiet c.handle.ensures.steady c.leave_memory.ensures.quiet) c.keep.ensures.steady) c.settle.ensures.quiet;
      count = le_trans (le_trans (le_trans c.handle.ensures.faults c.leave_memory.ensures.faults) c.keep.ensures.faults) c.settle.ensures.faults;
      bounded = c.bounds-4.ensures;
    }
