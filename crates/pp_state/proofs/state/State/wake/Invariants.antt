use Rattle.std.proofs.Common.{◌≡◌, ◌≤◌, length, vec_capacity}
use Rattle.pp_state.specs.Numbers.{places}
use Rattle.pp_state.proofs.state.State.wake.Given as goal

abbrev pub invariant-loop-i : goal.invariant-loop-i
invariant-loop-i l = record {
  all : length l.fn.self.seats.items ≤ vec_capacity l.fn.self.awake → l.self.awake.items ≡ places l.i;
  room : vec_capacity l.fn.self.awake ≤ vec_capacity l.self.awake;
  rest : record l.self { awake = l.fn.self.awake } ≡ l.fn.self;
}
