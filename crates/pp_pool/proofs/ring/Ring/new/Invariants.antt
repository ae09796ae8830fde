use Rattle.std.proofs.Common.{ℕ, ◌+◌, ◌≤◌, ◌<◌, ◌≡◌, get_or, length, vec_capacity}
use Rattle.pp_pool.proofs.ring.Ring.new.Given as goal

abbrev pub invariant-loop-number : goal.invariant-loop-number
invariant-loop-number l = record {
  nexts : length l.next.items ≡ l.number;
  previouses : length l.previous.items ≡ l.number + 1;
  next_room : l.size + 1 ≤ vec_capacity l.next;
  previous_room : l.size + 1 ≤ vec_capacity l.previous;
  begin : get_or l.previous.items 0 0 ≡ l.size;
  behind : (i : ℕ) → i < l.number → get_or l.next.items i 0 ≡ i + 1;
  before : (i : ℕ) → i < l.number → get_or l.previous.items (i + 1) 0 ≡ i;
}
