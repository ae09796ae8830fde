-- The connection of the program with a number, and what is changed of it.
use Rattle.std.proofs.Common.{◌≡◌, refl, sym, subst, ap, ◌∙◌, ℕ, Bool, true, false, ◌==◌, cond, find, List, [], ◌∷◌, Some}
use Rattle.pp_cache_law.proofs.Numbers.{some_is}
use Rattle.pp_flow_law.proofs.Entries.{none_some}
use Rattle.pp_law.specs.Connections.{is_conn}
use Rattle.pp_law.specs.State.{State, Conn}
use Rattle.pp_peers.specs.Peers.{is_number, with_peer}
use Rattle.pp_peers.specs.declared.peers.Peer.{Peer}
use Rattle.pp_peers_law.specs.Peers.{ShowsConn, ShowConns}

-- that of a connection of the law
pub record HasPeer (s : State) (n : ℕ) (ps : List Peer) (k : Conn) : Type 0 where
  pub peer : Peer
  pub there : find (is_number n) ps ≡ Some peer
  pub shows : ShowsConn s peer k

pub linked : (s : State) (n : ℕ) (ps : List Peer) (ks : List Conn) (k : Conn) → find (is_conn n) ks ≡ Some k → ShowConns s ps ks → HasPeer s n ps k
linked s n [] [] k there shows = absurd (none_some k there)
linked s n [] (j ∷ ks) k there shows = absurd shows
linked s n (p ∷ ps) [] k there shows = absurd shows
linked s n (p ∷ ps) (j ∷ ks) k there shows = by (is_number n p) (is_conn n j) refl (ap (λ (m : ℕ). m == n) shows.0.number) there (λ rest. linked s n ps ks k rest shows.1)
  where
    by : (b c : Bool) → is_number n p ≡ b → b ≡ c → cond c (Some j) (find (is_conn n) ks) ≡ Some k → (find (is_conn n) ks ≡ Some k → HasPeer s n ps k) → HasPeer s n (p ∷ ps) k
    by true true is same one rest = record {
      peer = p;
      there = ap (λ (b : Bool). cond b (Some p) (find (is_number n) ps)) is;
      shows = subst (λ (i : Conn). ShowsConn s p i) (some_is j k one) shows.0;
    }
    by true false is same one rest = absurd cc
    by false true is same one rest = absurd cc
    by false false is same one rest =
        let later : HasPeer s n ps k = rest one in
        record { peer = later.peer; there = ap (λ (b : Bool). cond b (Some p) (find (is_number n) ps)) is ∙ later.there; shows = later.shows }

-- it is such as it was
pub set_itself : (n : ℕ) (peer : Peer) (ps : List Peer) → find (is_number n) ps ≡ Some peer → with_peer n peer ps ≡ ps
set_itself n peer [] there = refl
set_itself n peer (p ∷ ps) there = by (is_number n p) there (set_itself n peer ps)
  where
    by : (b : Bool) → cond b (Some p) (find (is_number n) ps) ≡ Some peer → (find (is_number n) ps ≡ Some peer → with_peer n peer ps ≡ ps) → cond b (peer ∷ ps) (p ∷ with_peer n peer ps) ≡ p ∷ ps
    by true is rest = ap (λ (q : Peer). q ∷ ps) (sym (some_is p peer is))
    by false is rest = ap (λ (qs : List Peer). p ∷ qs) (rest is)

pub find_set : (n : ℕ) (peer new : Peer) (ps : List Peer) → is_number n new ≡ true → find (is_number n) ps ≡ Some peer → find (is_number n) (with_peer n new ps) ≡ Some new
find_set n peer new [] is there = absurd (none_some peer there)
find_set n peer new (p ∷ ps) is there = by (is_number n p) refl there (find_set n peer new ps is)
  where
    by : (b : Bool) → is_number n p ≡ b → cond b (Some p) (find (is_number n) ps) ≡ Some peer → (find (is_number n) ps ≡ Some peer → find (is_number n) (with_peer n new ps) ≡ Some new)
        → find (is_number n) (cond b (new ∷ ps) (p ∷ with_peer n new ps)) ≡ Some new
    by true one found rest = ap (λ (c : Bool). cond c (Some new) (find (is_number n) ps)) is
    by false one found rest = ap (λ (c : Bool). cond c (Some p) (find (is_number n) (with_peer n new ps))) one ∙ rest found

pub set_twice : (n : ℕ) (new last : Peer) (ps : List Peer) → is_number n new ≡ true → with_peer n last (with_peer n new ps) ≡ with_peer n last ps
set_twice n new last [] is = refl
set_twice n new last (p ∷ ps) is = by (is_number n p) refl (set_twice n new last ps is)
  where
    by : (b : Bool) → is_number n p ≡ b → with_peer n last (with_peer n new ps) ≡ with_peer n last ps → with_peer n last (cond b (new ∷ ps) (p ∷ with_peer n new ps)) ≡ cond b (last ∷ ps) (p ∷ with_peer n last ps)
    by true one rest = ap (λ (c : Bool). cond c (last ∷ ps) (new ∷ with_peer n last ps)) is
    by false one rest = ap (λ (c : Bool). cond c (last ∷ with_peer n new ps) (p ∷ with_peer n last (with_peer n new ps))) one ∙ ap (λ (qs : List Peer). p ∷ qs) rest
