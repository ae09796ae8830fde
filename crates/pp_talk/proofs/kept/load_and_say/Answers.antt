use Rattle.std.proofs.Common.{◌≡◌, ap, sym, subst, List, ℕ}
use Rattle.pp_desk.specs.declared.desk.Desk.{Desk}
use Rattle.pp_shelf.proofs.SteadyLemmas.{steady_then_quiet}
use Rattle.pp_state.specs.Ends.{AreInOrder, AreSeated, numbers_of}
use Rattle.pp_talk.proofs.kept.load_and_say.Goals as goal

pub returns-clause-steady : goal.returns-clause-steady
returns-clause-steady g c = steady_then_quiet c.load_next.ensures.steady c.say.ensures.quiet

pub returns-clause-is : goal.returns-clause-is
returns-clause-is g c = λ seated.
    let old : Desk = c.args.desk.now in
    let mid : Desk = c.load_next.new.desk in
    let log = g.W.Logged.log in
    let step = c.load_next.ensures in
    let numbers : numbers_of mid.state.seats.items ≡ numbers_of old.state.seats.items = ap (λ (d : Desk). numbers_of d.state.seats.items) step.rest in
    let seated_then : AreSeated mid.state = subst (λ (ns : List ℕ). AreInOrder ns) (sym numbers) seated in
    record {
      loaded = mid;
      between = log c.load_next.new.world;
      count = g.W.Logged.faults c.load_next.new.world;
      loads = step.is;
      stays = ap (λ (d : Desk). record d { state = old.state }) step.rest;
      says = c.say.ensures.is seated_then;
      rest = c.say.ensures.rest;
      counted = c.say.ensures.faults;
      bounded = c.bounds.ensures;
    }
