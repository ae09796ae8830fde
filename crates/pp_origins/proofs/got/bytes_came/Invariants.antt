use Rattle.std.proofs.Common.{◌≡◌, ◌≤◌, ◌+◌, ◌-◌, length, take, slice_range, vec_capacity, [], Some}
use Rattle.pp_origins.proofs.GotLemmas.{AreGotSoFar}
use Rattle.pp_origins.specs.Gots.{both, remaining}
use Rattle.pp_state.specs.Ends.{AreSeated, numbers_of}
use Rattle.pp_origins.proofs.got.bytes_came.Given as goal

abbrev pub invariant-loop-step : goal.invariant-loop-step
invariant-loop-step l = record {
  is : AreSeated l.fn.desk.state → l.n ≤ vec_capacity l.fn.desk.«data» → AreGotSoFar 65600 l._step l.shelf l.k (Some (remaining (take l.n l.fn.desk.buffer.items) [])) (Some (remaining (slice_range l.fn.desk.buffer.items l.at l.n) l.desk.«data».items)) (both l.fn.desk) (both l.desk);
  fits : l.n ≤ vec_capacity l.fn.desk.«data» → length l.desk.«data».items + (l.n - l.at) ≤ vec_capacity l.desk.«data»;
  within : l.at ≤ l.n;
  numbers : numbers_of l.desk.state.seats.items ≡ numbers_of l.fn.desk.state.seats.items;
  room : vec_capacity l.fn.desk.«data» ≤ vec_capacity l.desk.«data»;
  rest : record l.desk { state = l.fn.desk.state; peers = l.fn.desk.peers; «data» = l.fn.desk.«data» } ≡ l.fn.desk;
}
