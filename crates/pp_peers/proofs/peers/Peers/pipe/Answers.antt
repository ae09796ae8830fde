use Rattle.std.proofs.Common.{◌≡◌, ◌<◌, ℕ, List, length, Some, option_map, refl, sym, ap, ◌∙◌, arith}
use Rattle.std.specs.List.{find}
use Rattle.pp_peers.proofs.Finding.{find_at, same_lent, set_at}
use Rattle.pp_peers.specs.Peers.{is_number, place_in, with_pipe}
use Rattle.pp_peers.specs.declared.peers.Peer.{Peer}
use Rattle.pp_peers.proofs.peers.Peers.pipe.Goals as goal

pub returns : goal.returns
returns c =
    let number : ℕ = c.args.number in
    let peers : List Peer = c.self.inside.peers.items in
    let view : peers ≡ c.args.self.now = c.self.view_is in
    let place : c.place_of-index.result ≡ place_in number peers = c.place_of-index.ensures ∙ ap (place_in number) c.deref.ensures.value in
    let within : c.place_of-index.result < length peers = omega (arith, c.in_ok-peer.ensures.variant.0 refl, c.self.inside.peers.ok) in
    let found : find (is_number number) c.args.self.now ≡ Some c.in_ok-peer.peer.now =
    ap (find (is_number number)) (sym view) ∙ find_at number peers c.place_of-index.result c.in_ok-peer.peer.now place within c.in_ok-peer.ensures.value in (
      same_lent _ _ _ (λ line. set_at number peers c.place_of-index.result c.in_ok-peer.peer.now line place within c.in_ok-peer.ensures.value ∙ ap (with_pipe number line) view),
      record { writes_back = tt; value = sym (ap (option_map (λ (p : Peer). p.pipe)) found) },
    )
