use Rattle.std.proofs.Common.{ap, refl, List}
use Rattle.pp_desk.specs.Closings.{sides}
use Rattle.pp_desk.specs.declared.desk.Desk.{Desk}
use Rattle.pp_peers.specs.declared.peers.Peer.{Peer}
use Rattle.pp_proxy.proofs.event.reach.Goals as goal

pub returns : goal.returns
returns c = λ seated.
    let woken : Desk = c.touch.new.self in
    record {
      woken = woken;
      touches = record { is = c.touch.ensures.is seated; numbers = c.touch.ensures.numbers; rest = c.touch.ensures.rest };
      reaches = record { is = ap (λ (peers : List Peer). record (sides woken) { peers = peers }) c.note_reached.ensures; numbers = refl; rest = refl };
    }
