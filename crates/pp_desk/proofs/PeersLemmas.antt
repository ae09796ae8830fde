-- Connection after connection is changed, place by place.
use Rattle.std.proofs.Common.{◌≡◌, ◌<◌, ◌≤◌, ◌+◌, ℕ, zero, suc, List, [], ◌∷◌, length, map, slice_get, Option, Some, None, add-one, refl, sym, ap, ◌∙◌, arith}
use Rattle.pp_peers.specs.declared.peers.Peer.{Peer}
use Rattle.pp_desk.specs.Marks.{changed_where, on_peer_at}

-- the first so many
abbrev pub fronted : (Peer → Peer) → ℕ → List Peer → List Peer
fronted f zero peers = peers
fronted f (suc n) [] = []
fronted f (suc n) (peer ∷ peers) = f peer ∷ fronted f n peers

fronted_all : (f : Peer → Peer) (peers : List Peer) → fronted f (length peers) peers ≡ map f peers
fronted_all f [] = refl
fronted_all f (peer ∷ peers) = ap (λ xs. f peer ∷ xs) (fronted_all f peers)

changed_behind : (place : ℕ) (f : Peer → Peer) (peer : Peer) (peers : List Peer) → on_peer_at (suc place) f (peer ∷ peers) ≡ peer ∷ on_peer_at place f peers
changed_behind place f peer peers = by (slice_get peers place)
  where
    by : (o : Option Peer) → changed_where o (suc place) f (peer ∷ peers) ≡ peer ∷ changed_where o place f peers
    by None = refl
    by (Some p) = refl

front_next : (f : Peer → Peer) (place : ℕ) (peers : List Peer) → place < length peers → on_peer_at place f (fronted f place peers) ≡ fronted f (suc place) peers
front_next f place [] within = absurd (omega (arith, within))
front_next f zero (peer ∷ peers) within = refl
front_next f (suc place) (peer ∷ peers) within = changed_behind place f (f peer) (fronted f place peers) ∙ ap (λ xs. f peer ∷ xs) (front_next f place peers (omega (arith, within)))

-- the next is changed too
pub fronted_next : (f : Peer → Peer) (place : ℕ) (old mid new : List Peer) → mid ≡ fronted f place old → place < length old → new ≡ on_peer_at place f mid → new ≡ fronted f (place + 1) old
fronted_next f place old mid new before within is =
    is ∙ ap (on_peer_at place f) before ∙ front_next f place old within ∙ ap (λ n. fronted f n old) (sym (add-one place))

-- all are
pub fronted_whole : (f : Peer → Peer) (place : ℕ) (old now : List Peer) → length old ≤ place → place ≤ length old → now ≡ fronted f place old → now ≡ map f old
fronted_whole f place old now least most is =
    let all : place ≡ length old = omega (arith, least, most) in
    is ∙ ap (λ n. fronted f n old) all ∙ fronted_all f old
