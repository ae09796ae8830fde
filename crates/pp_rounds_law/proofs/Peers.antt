-- Connections keep their numbers as some are closed.
use Rattle.std.proofs.Common.{◌≡◌, refl, ap, ◌∙◌, ℕ, Bool, true, false, cond, find, List, [], ◌∷◌, Option, Some, None}
use Rattle.std.specs.List.{fold}
use Rattle.pp_cache_law.proofs.Numbers.{some_is}
use Rattle.pp_desk.specs.Closings.{Sides, closing, peer_numbers}
use Rattle.pp_desk.specs.Origins.{unseen_dropped, without_unseen, without_unseen_on}
use Rattle.pp_flow_law.proofs.Entries.{none_some}
use Rattle.pp_peers.specs.Peers.{is_number, with_peer}
use Rattle.pp_peers.specs.declared.peers.Peer.{Peer}
use Rattle.pp_state.specs.Unseen.{unseen_on}

-- another of its number stands at its place
other_numbers : (k : ℕ) (peer : Peer) (ps : List Peer) → find (is_number k) ps ≡ Some peer → peer_numbers (with_peer k (record peer { is_closing = true }) ps) ≡ peer_numbers ps
other_numbers k peer [] there = absurd (none_some peer there)
other_numbers k peer (p ∷ ps) there = by (is_number k p) there (λ later. other_numbers k peer ps later)
  where
    by : (b : Bool) → cond b (Some p) (find (is_number k) ps) ≡ Some peer → (find (is_number k) ps ≡ Some peer → peer_numbers (with_peer k (record peer { is_closing = true }) ps) ≡ peer_numbers ps)
        → peer_numbers (cond b ((record peer { is_closing = true }) ∷ ps) (p ∷ with_peer k (record peer { is_closing = true }) ps)) ≡ p.number ∷ peer_numbers ps
    by true found rest = ap (λ (q : Peer). q.number ∷ peer_numbers ps) (some_is peer p (let other : Some peer ≡ Some p = cc found in other))
    by false found rest = ap (λ (ns : List ℕ). p.number ∷ ns) (rest found)

closing_numbers : (k : ℕ) (o : Option Peer) (ps : List Peer) → find (is_number k) ps ≡ o → peer_numbers (closing k o ps) ≡ peer_numbers ps
closing_numbers k None ps there = refl
closing_numbers k (Some peer) ps there = by peer.is_closing
  where
    by : (b : Bool) → peer_numbers (cond b ps (with_peer k (record peer { is_closing = true }) ps)) ≡ peer_numbers ps
    by true = refl
    by false = other_numbers k peer ps there

dropped_numbers : (k : ℕ) (o : Option ℕ) (x : Sides) → peer_numbers (unseen_dropped k o x).peers ≡ peer_numbers x.peers
dropped_numbers k None x = refl
dropped_numbers k (Some n) x = closing_numbers k (find (is_number k) x.peers) x.peers refl

each_numbers : (ns : List ℕ) (x : Sides) → peer_numbers (fold without_unseen_on x ns).peers ≡ peer_numbers x.peers
each_numbers [] x = refl
each_numbers (n ∷ ns) x = each_numbers ns (without_unseen_on x n) ∙ dropped_numbers n (unseen_on n x.parts.seats x.parts.flow) x

pub unseen_numbers : (x : Sides) → peer_numbers (without_unseen x).peers ≡ peer_numbers x.peers
unseen_numbers x = each_numbers (peer_numbers x.peers) x
