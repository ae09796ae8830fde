use Rattle.std.proofs.Common.{◌≡◌, ◌≤◌, length, vec_capacity}
use Rattle.pp_peers.proofs.peers.Peers.new.Given as goal

abbrev pub invariant-loop-number : goal.invariant-loop-number
invariant-loop-number l = record {
  count : length l.spare.items ≡ l.number;
  room : 64 ≤ vec_capacity l.spare;
}
