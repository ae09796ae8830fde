use Rattle.std.proofs.Common.{◌≡◌}
use Rattle.pp_desk.specs.Closings.{peer_numbers}
use Rattle.pp_desk.specs.Origins.{without_unseen_on}
use Rattle.pp_desk.proofs.OriginLemmas.{AreDone}
use Rattle.pp_places.proofs.unseen.drop_unseen.Given as goal

abbrev pub invariant-loop-place : goal.invariant-loop-place
invariant-loop-place l = record {
  done : AreDone without_unseen_on (peer_numbers l.fn.desk.peers) l.place l.fn.desk l.desk;
  connections : peer_numbers l.desk.peers ≡ peer_numbers l.fn.desk.peers;
}
