use Rattle.std.proofs.Common.{◌≡◌, map, drop}
use Rattle.pp_peers.specs.Peers.{with_load}
use Rattle.pp_peers.specs.Searches.{is_among, is_idle, lowest, numbers}
use Rattle.pp_peers.proofs.Searching.{joined}
use Rattle.pp_peers.proofs.searches.lowest_idle.Given as goal

abbrev pub invariant-loop-peer : goal.invariant-loop-peer
invariant-loop-peer l =
    joined l.lowest (numbers (is_idle (is_among l.among)) (map with_load (drop l.peer-index l.peers))) ≡ lowest (numbers (is_idle (is_among l.among)) (map with_load l.peers))
