use Rattle.std.proofs.Common.{◌≡◌, ◌+◌, drop}
use Rattle.pp_peers.specs.Peers.{first_over}
use Rattle.pp_peers.proofs.peers.first_over.Given as goal

abbrev pub invariant-loop-peer : goal.invariant-loop-peer
invariant-loop-peer l = record {
  place : l.place + first_over l.is_end (drop l.peer-index l.peers) ≡ first_over l.is_end l.peers;
  same : l.place ≡ l.peer-index;
}
