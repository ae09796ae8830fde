use Rattle.std.proofs.Common.{◌≡◌, ◌≤◌, ◌+◌, length, map, filter, drop}
use Rattle.pp_peers.specs.Peers.{with_load}
use Rattle.pp_peers.specs.Searches.{is_among}
use Rattle.pp_peers.proofs.searches.count_of.Given as goal

abbrev pub invariant-loop-peer : goal.invariant-loop-peer
invariant-loop-peer l = record {
  count : l.count + length (filter (is_among l.among) (map with_load (drop l.peer-index l.peers))) ≡ length (filter (is_among l.among) (map with_load l.peers));
  few : l.count ≤ l.peer-index;
}
