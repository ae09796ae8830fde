use Rattle.std.proofs.Common.{◌≡◌, ◌-◌, ◌+◌, length}
use Rattle.pp_flow.specs.Changes.{numbers}
use Rattle.pp_take.proofs.GivingUpLemmas.{Leads}
use Rattle.pp_state.specs.Ends.{AreInOrder, AreSeated, KeepsRest, numbers_of, parts}
use Rattle.pp_take.proofs.filling.give_up_asks.Given as goal

abbrev pub invariant-loop-ask : goal.invariant-loop-ask
invariant-loop-ask l = record {
  is : AreSeated l.fn.state → AreInOrder (numbers l.fn.state.flow.waiting) → Leads l.after (length l.fn.state.flow.waiting + length l.fn.state.flow.placed - l._ask) (parts l.fn.state) (parts l.state);
  numbers : numbers_of l.state.seats.items ≡ numbers_of l.fn.state.seats.items;
  astray : l.state.is_astray ≡ l.fn.state.is_astray;
  rest : KeepsRest l.fn.state l.state;
}
