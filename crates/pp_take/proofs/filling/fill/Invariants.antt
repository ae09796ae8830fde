use Rattle.std.proofs.Common.{◌≡◌, take}
use Rattle.pp_state.specs.Ends.{KeepsRest, numbers_of, parts}
use Rattle.pp_take.specs.Filling.{all_filled}
use Rattle.pp_take.proofs.filling.fill.Given as goal

abbrev pub invariant-loop-turn : goal.invariant-loop-turn
invariant-loop-turn l = record {
  is : parts l.state ≡ all_filled l.fn.state.name.items (take l.turn l.fn.state.awake.items) (parts l.fn.state);
  numbers : numbers_of l.state.seats.items ≡ numbers_of l.fn.state.seats.items;
  rest : KeepsRest l.fn.state l.state;
}
