use Rattle.std.proofs.Common.{◌≡◌, ◌+◌, drop}
use Rattle.pp_peers.specs.Peers.{place_in}
use Rattle.pp_peers.proofs.peers.place_of.Given as goal

abbrev pub invariant-loop-peer : goal.invariant-loop-peer
invariant-loop-peer l = record {
  place : l.place + place_in l.number (drop l.peer-index l.peers) ≡ place_in l.number l.peers;
  same : l.place ≡ l.peer-index;
}
