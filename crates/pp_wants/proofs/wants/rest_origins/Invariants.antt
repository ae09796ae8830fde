use Rattle.std.proofs.Common.{◌≡◌}
use Rattle.pp_wants.specs.Rests.{rested_peer}
use Rattle.pp_desk.proofs.PeersLemmas.{fronted}
use Rattle.pp_wants.proofs.wants.rest_origins.Given as goal

abbrev pub invariant-loop-place : goal.invariant-loop-place
invariant-loop-place l = l.peers ≡ fronted (rested_peer l.clients l.wants l.now) l.place l.fn.peers
