use Rattle.std.proofs.Common.{◌≡◌, map, drop}
use Rattle.pp_peers.specs.Peers.{with_load}
use Rattle.pp_peers.specs.Searches.{is_among, takes_more, lightest_of, weights}
use Rattle.pp_peers.proofs.Searching.{weighed}
use Rattle.pp_peers.proofs.searches.lightest.Given as goal

abbrev pub invariant-loop-peer : goal.invariant-loop-peer
invariant-loop-peer l =
    weighed l.lightest (weights (takes_more (is_among l.among)) (map with_load (drop l.peer-index l.peers))) ≡ lightest_of (weights (takes_more (is_among l.among)) (map with_load l.peers))
