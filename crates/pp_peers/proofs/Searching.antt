-- A search over the connections, one by one.
use Rattle.std.proofs.Common.{◌≡◌, ◌≤◌, ◌<◌, ◌+◌, ℕ, Bool, true, false, cond, min, List, [], ◌∷◌, map, filter, fold, length, refl, sym, ◌∙◌, ap, get_or, drop, add-one, drop-cons, Option, Some, None}
use Rattle.std.specs.List.{find}
use Rattle.std.proofs.lemmas.List.{drop_all}
use Rattle.pp_peers.specs.declared.peers.Peer.{Peer}
use Rattle.pp_peers.specs.Peers.{Loaded, with_load}
use Rattle.pp_peers.specs.Searches.{Weight, lighter, lighter_of, lightest_of, lower, lowest}

next : (ps : List Peer) (i : ℕ) (p : Peer) → i < length ps → p ≡ get_or ps i p → drop i ps ≡ p ∷ drop (i + 1) ps
next ps i p within is = rw add-one (drop-cons ps i p within) ∙ ap (λ q. q ∷ drop (i + 1) ps) (sym is)

-- the next one passes the test
pub kept : (test : Loaded → Bool) (ps : List Peer) (i : ℕ) (p : Peer) → i < length ps → p ≡ get_or ps i p → test (with_load p) ≡ true
    → filter test (map with_load (drop i ps)) ≡ with_load p ∷ filter test (map with_load (drop (i + 1) ps))
kept test ps i p within is passes =
    ap (λ qs. filter test (map with_load qs)) (next ps i p within is)
    ∙ ap (λ b. cond b (with_load p ∷ filter test (map with_load (drop (i + 1) ps))) (filter test (map with_load (drop (i + 1) ps)))) passes

-- the next one does not
pub left_out : (test : Loaded → Bool) (ps : List Peer) (i : ℕ) (p : Peer) → i < length ps → p ≡ get_or ps i p → test (with_load p) ≡ false
    → filter test (map with_load (drop i ps)) ≡ filter test (map with_load (drop (i + 1) ps))
left_out test ps i p within is passes =
    ap (λ qs. filter test (map with_load qs)) (next ps i p within is)
    ∙ ap (λ b. cond b (with_load p ∷ filter test (map with_load (drop (i + 1) ps))) (filter test (map with_load (drop (i + 1) ps)))) passes

pub none_left : (test : Loaded → Bool) (ps : List Peer) (i : ℕ) → length ps ≤ i → filter test (map with_load (drop i ps)) ≡ []
none_left test ps i past = ap (λ qs. filter test (map with_load qs)) (drop_all i ps past)

-- the first that passes the test
pub found : (test : Peer → Bool) (ps : List Peer) (i : ℕ) (p : Peer) → i < length ps → p ≡ get_or ps i p → test p ≡ true → find test (drop i ps) ≡ Some p
found test ps i p within is passes =
    ap (find test) (next ps i p within is) ∙ ap (λ b. cond b (Some p) (find test (drop (i + 1) ps))) passes

pub passed : (test : Peer → Bool) (ps : List Peer) (i : ℕ) (p : Peer) → i < length ps → p ≡ get_or ps i p → test p ≡ false
    → find test (drop i ps) ≡ find test (drop (i + 1) ps)
passed test ps i p within is passes =
    ap (find test) (next ps i p within is) ∙ ap (λ b. cond b (Some p) (find test (drop (i + 1) ps))) passes

pub not_found : (test : Peer → Bool) (ps : List Peer) (i : ℕ) → length ps ≤ i → find test (drop i ps) ≡ None
not_found test ps i past = ap (find test) (drop_all i ps past)

-- the lowest of what was seen and of what is left
abbrev pub joined : Option ℕ → List ℕ → Option ℕ
joined None ns = lowest ns
joined (Some m) ns = Some (fold min m ns)

pub joined-next : (m : Option ℕ) (n : ℕ) (ns : List ℕ) → joined (Some (lower m n)) ns ≡ joined m (n ∷ ns)
joined-next None n ns = refl
joined-next (Some m) n ns = refl

pub joined-none : (m : Option ℕ) → joined m [] ≡ m
joined-none None = refl
joined-none (Some m) = refl

-- the lightest of what was seen and of what is left
abbrev pub weighed : Option Weight → List Weight → Option Weight
weighed None ws = lightest_of ws
weighed (Some v) ws = Some (fold lighter_of v ws)

pub weighed-next : (v : Option Weight) (w : Weight) (ws : List Weight) → weighed (Some (lighter v w)) ws ≡ weighed v (w ∷ ws)
weighed-next None w ws = refl
weighed-next (Some v) w ws = refl

pub weighed-none : (v : Option Weight) → weighed v [] ≡ v
weighed-none None = refl
weighed-none (Some v) = refl
