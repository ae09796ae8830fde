use Rattle.std.proofs.Common.{◌≡◌, drop}
use Rattle.std.specs.List.{find}
use Rattle.pp_peers.specs.Peers.{is_number}
use Rattle.pp_peers.proofs.peers.Peers.get.Given as goal

abbrev pub invariant-loop-peer : goal.invariant-loop-peer
invariant-loop-peer l = find (is_number l.number) (drop l.peer-index l.peer-items) ≡ find (is_number l.number) l.peer-items
