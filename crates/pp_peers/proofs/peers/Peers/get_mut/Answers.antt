use Rattle.std.proofs.Common.{◌≡◌, ◌<◌, ℕ, List, length, Some, refl, sym, ap, ◌∙◌, arith}
use Rattle.std.specs.List.{find}
use Rattle.pp_peers.proofs.Finding.{find_at, peer_set_at, same_lent}
use Rattle.pp_peers.specs.Peers.{is_number, place_in, with_peer}
use Rattle.pp_peers.specs.declared.peers.Peer.{Peer}
use Rattle.pp_peers.proofs.peers.Peers.get_mut.Goals as goal

pub returns : goal.returns
returns c =
    let number : ℕ = c.args.number in
    let peers : List Peer = c.self.inside.peers.items in
    let view : peers ≡ c.args.self.now = c.self.view_is in
    let place : c.place_of-index.result ≡ place_in number peers = c.place_of-index.ensures ∙ ap (place_in number) c.deref.ensures.value in
    let within : c.place_of-index.result < length peers = omega (arith, c.in_ok-peer.ensures.variant.0 refl, c.self.inside.peers.ok) in
    let found : find (is_number number) c.args.self.now ≡ Some c.in_ok-peer.peer.now =
    ap (find (is_number number)) (sym view) ∙ find_at number peers c.place_of-index.result c.in_ok-peer.peer.now place within c.in_ok-peer.ensures.value in (
      same_lent _ _ _ (λ peer. peer_set_at number peers c.place_of-index.result peer place within ∙ ap (with_peer number peer) view),
      record { writes_back = tt; value = sym found },
    )
