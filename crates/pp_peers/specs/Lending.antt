-- What is left when a connection or its pipe that was lent is given back.
use Rattle.std.specs.Borrow.{Fml, LendsIf, MutBor}
use Rattle.std.specs.Prelude.{ℕ, List, Option, set}
use Rattle.pp_pipe.specs.Line.{Line}
use Rattle.pp_pipe.specs.contracts.pipe.Pipe.{the_row as pipe_row}
use Rattle.pp_peers.specs.Peers.{with_peer, with_pipe}
use Rattle.pp_peers.specs.contracts.peers.Peer.{the_row as peer_row}
use Rattle.pp_peers.specs.contracts.peers.Peers.{the_row as peers_row}
use Rattle.pp_peers.specs.declared.peers.Peer.{Peer}

abbrev pub LendsPipe : MutBor (List Peer) → ℕ → Option (MutBor Line) → Fml
LendsPipe peers number result = LendsIf peers_row pipe_row peers result (λ line. with_pipe number line peers.now) peers.now

abbrev pub LendsPeer : MutBor (List Peer) → ℕ → Option (MutBor Peer) → Fml
LendsPeer peers number result = LendsIf peers_row peer_row peers result (λ peer. with_peer number peer peers.now) peers.now

abbrev pub LendsPeerAt : MutBor (List Peer) → ℕ → Option (MutBor Peer) → Fml
LendsPeerAt peers place result = LendsIf peers_row peer_row peers result (λ peer. set peers.now place peer) peers.now
