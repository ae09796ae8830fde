use Rattle.std.proofs.Common.{◌≡◌}
use Rattle.pp_desk.specs.Marks.{marked_peer}
use Rattle.pp_desk.proofs.PeersLemmas.{fronted}
use Rattle.pp_desk.proofs.marks.mark_peers.Given as goal

abbrev pub invariant-loop-place : goal.invariant-loop-place
invariant-loop-place l = l.peers ≡ fronted (marked_peer l.now) l.place l.fn.peers
