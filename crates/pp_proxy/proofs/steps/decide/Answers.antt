use Rattle.std.proofs.Common.{◌≡◌, ◌∙◌, ap, refl, sym, subst, Bool, true, ℕ, List, Option, Some, None, arith}
use Rattle.std.proofs.lemmas.Grind.{common_steps}
use Rattle.pp_desk.specs.declared.desk.Desk.{Desk}
use Rattle.pp_due.specs.Entering.{FirstDue}
use Rattle.pp_links.proofs.QuietLemmas.{quiet_then}
use Rattle.pp_proxy.proofs.DecidingLemmas.{AreDecidedSoFar, all_decided, most_decided, none_decided, found_keeps, next_keeps, one_more_decided, taken_one, turned_keeps}
use Rattle.pp_proxy.proofs.FoundLemmas.{found_stays}
use Rattle.pp_proxy.specs.Moving.{moving, with_state}
use Rattle.pp_seats.specs.declared.due.Due.{Due}
use Rattle.pp_state.specs.Ends.{AreInOrder, numbers_of}
use Rattle.pp_state.specs.declared.state.State.{State}
use Rattle.pp_proxy.proofs.steps.decide.Goals as goal

pub loop-due-init : goal.loop-due-init
loop-due-init g c =
    let old : Desk = c.args.desk.now in
    let top = g.W.Logged.top in
    let log = g.W.Logged.log in
    let faults = g.W.Logged.faults in
    let step = c.turn_away-is_any.ensures in
    let mid : Desk = c.turn_away-is_any.new.desk in
    let x = moving old c.args.links.now (top c.args.world.now) in
    let y = moving mid c.turn_away-is_any.new.links (top c.turn_away-is_any.new.world) in
    record {
      linked = step.linked;
      quiet = step.quiet;
      is = λ seated.
          subst (λ (b : Bool). AreDecidedSoFar 0 c.args.shelf.now x y b (log c.args.world.now) (log c.turn_away-is_any.new.world) (faults c.args.world.now) (faults c.turn_away-is_any.new.world)) (sym step.answer)
          (none_decided c.args.shelf.now x y (log c.args.world.now) (log c.turn_away-is_any.new.world) (faults c.args.world.now) (faults c.turn_away-is_any.new.world) step.is);
      numbers = ap (λ (d : Desk). numbers_of d.state.seats.items) step.is.is.desk;
      rest = turned_keeps old mid step.is.is.desk;
      faults = step.faults;
      top = step.top;
    }

pub loop-due-preserved : goal.loop-due-preserved
loop-due-preserved g c =
    let old : Desk = c.args.desk.now in
    let mid : Desk = c.loop-due.desk in
    let new : Desk = c.take_due.new.desk in
    let found : State = c.first_due.new.state in
    let top = g.W.Logged.top in
    let log = g.W.Logged.log in
    let faults = g.W.Logged.faults in
    let before = c.loop-due.invariant in
    let step = c.take_due.ensures in
    let i = c.in-Some.i in
    let due = c.in-Some.due in
    let shelf = c.args.shelf.now in
    let x = moving old c.args.links.now (top c.args.world.now) in
    let here = moving mid c.turn_away-is_any.new.links (top c.loop-due.world) in
    let there = moving new c.turn_away-is_any.new.links (top c.take_due.new.world) in
    let first : FirstDue shelf mid.state.awake.items mid.state found (Some (i, due)) = subst (λ (o : Option (ℕ × Due)). FirstDue shelf mid.state.awake.items mid.state found o) c.in-Some.is c.first_due.ensures in
    let stays = found_stays shelf mid.state.awake.items mid.state found (Some (i, due)) first in
    let numbers : numbers_of found.seats.items ≡ numbers_of old.state.seats.items = stays.numbers ∙ before.numbers in
    record {
      linked = step.linked;
      quiet = quiet_then before.quiet step.quiet;
      is = λ seated.
          one_more_decided c.loop-due._due shelf x here there c.loop-due.is_any found i due (log c.args.world.now) (log c.loop-due.world) (log c.take_due.new.world) (faults c.args.world.now) (faults c.loop-due.world) (faults c.take_due.new.world)
          c.loop-due-test.true (before.is seated) first
          (taken_one i due (with_state found here) there (log c.loop-due.world) (log c.take_due.new.world) (faults c.loop-due.world) (faults c.take_due.new.world)
          (record { log_is = refl; is = step.is (subst (λ (ns : List ℕ). AreInOrder ns) (sym numbers) seated); bounded = c.bounds.ensures; numbers = step.numbers; rest = step.rest; links = refl; top = step.top }) step.told step.faults);
      numbers = step.numbers ∙ numbers;
      rest = next_keeps old (record mid { state = found }) new (found_keeps old mid found before.rest stays.rest) step.rest;
      faults = omega (arith, before.faults, step.faults);
      top = step.top ∙ before.top;
    }

pub returns-clause-is : goal.returns-clause-is
returns-clause-is g c = λ seated.
    let top = g.W.Logged.top in
    let log = g.W.Logged.log in
    let faults = g.W.Logged.faults in
    most_decided c.loop-due._due c.args.shelf.now (moving c.args.desk.now c.args.links.now (top c.args.world.now)) (moving c.loop-due.desk c.turn_away-is_any.new.links (top c.loop-due.world)) c.loop-due.is_any (log c.args.world.now) (log c.loop-due.world)
    (faults c.args.world.now) (faults c.loop-due.world) (omega (arith, c.loop-due-test.false)) (c.loop-due.invariant.is seated)

pub returns-in_default-clause-is : goal.returns-in_default-clause-is
returns-in_default-clause-is g c = λ seated.
    let mid : Desk = c.loop-due.desk in
    let found : State = c.first_due.new.state in
    let shelf = c.args.shelf.now in
    let top = g.W.Logged.top in
    let log = g.W.Logged.log in
    let faults = g.W.Logged.faults in
    let none : c.first_due.result ≡ None = grind (arith, common_steps) in
    all_decided c.loop-due._due shelf (moving c.args.desk.now c.args.links.now (top c.args.world.now)) (moving mid c.turn_away-is_any.new.links (top c.loop-due.world)) c.loop-due.is_any found (log c.args.world.now) (log c.loop-due.world)
    (faults c.args.world.now) (faults c.loop-due.world) c.loop-due-test.true (c.loop-due.invariant.is seated) (subst (λ (o : Option (ℕ × Due)). FirstDue shelf mid.state.awake.items mid.state found o) none c.first_due.ensures)

pub returns-in_default-clause-numbers : goal.returns-in_default-clause-numbers
returns-in_default-clause-numbers g c =
    let mid : Desk = c.loop-due.desk in
    let stays = found_stays c.args.shelf.now mid.state.awake.items mid.state c.first_due.new.state c.first_due.result c.first_due.ensures in
    stays.numbers ∙ c.loop-due.invariant.numbers

pub returns-in_default-clause-rest : goal.returns-in_default-clause-rest
returns-in_default-clause-rest g c =
    let mid : Desk = c.loop-due.desk in
    let stays = found_stays c.args.shelf.now mid.state.awake.items mid.state c.first_due.new.state c.first_due.result c.first_due.ensures in
    found_keeps c.args.desk.now mid c.first_due.new.state c.loop-due.invariant.rest stays.rest
