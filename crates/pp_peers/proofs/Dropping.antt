-- What is left when the first connection that does not go on is taken out.
use Rattle.std.proofs.Common.{◌≡◌, ◌<◌, ◌≤◌, ◌+◌, ℕ, zero, suc, Bool, true, false, cond, List, [], ◌∷◌, filter, get_or, drop, length, refl, sym, ◌∙◌, ap, arith, add-one, drop-cons}
use Rattle.std.specs.List.{remove}
use Rattle.std.proofs.lemmas.List.{drop_all}
use Rattle.pp_peers.specs.Peers.{first_over, goes_on}
use Rattle.pp_peers.specs.declared.peers.Peer.{Peer}

next : (ps : List Peer) (i : ℕ) (p : Peer) → i < length ps → p ≡ get_or ps i p → drop i ps ≡ p ∷ drop (i + 1) ps
next ps i p within is = rw add-one (drop-cons ps i p within) ∙ ap (λ q. q ∷ drop (i + 1) ps) (sym is)

pub found : (is_end : Bool) (ps : List Peer) (i : ℕ) (p : Peer) → i < length ps → p ≡ get_or ps i p → goes_on is_end p ≡ false → first_over is_end (drop i ps) ≡ 0
found is_end ps i p within is over = ap (first_over is_end) (next ps i p within is) ∙ ap (λ b. cond b (first_over is_end (drop (i + 1) ps) + 1) 0) over

pub passed : (is_end : Bool) (ps : List Peer) (i : ℕ) (p : Peer) → i < length ps → p ≡ get_or ps i p → goes_on is_end p ≡ true
    → first_over is_end (drop i ps) ≡ first_over is_end (drop (i + 1) ps) + 1
passed is_end ps i p within is goes = ap (first_over is_end) (next ps i p within is) ∙ ap (λ b. cond b (first_over is_end (drop (i + 1) ps) + 1) 0) goes

pub not_found : (is_end : Bool) (ps : List Peer) (i : ℕ) → length ps ≤ i → first_over is_end (drop i ps) ≡ 0
not_found is_end ps i past = ap (first_over is_end) (drop_all i ps past)

-- ---- its place, by the test of the first

first : (is_end : Bool) (q : Peer) (ps : List Peer) (i : ℕ) → i ≡ first_over is_end (q ∷ ps) → goes_on is_end q ≡ false → i ≡ 0
first is_end q ps i at e = at ∙ ap (λ b. cond b (first_over is_end ps + 1) 0) e

later : (is_end : Bool) (q : Peer) (ps : List Peer) (i : ℕ) → i ≡ first_over is_end (q ∷ ps) → goes_on is_end q ≡ true → i ≡ first_over is_end ps + 1
later is_end q ps i at e = at ∙ ap (λ b. cond b (first_over is_end ps + 1) 0) e

-- ---- it is taken out

left_of : (is_end : Bool) (q : Peer) (ps : List Peer) (b : Bool) → goes_on is_end q ≡ b → filter (goes_on is_end) (q ∷ ps) ≡ cond b (q ∷ filter (goes_on is_end) ps) (filter (goes_on is_end) ps)
left_of is_end q ps b e = ap (λ v. cond v (q ∷ filter (goes_on is_end) ps) (filter (goes_on is_end) ps)) e

first_dropped : (is_end : Bool) (q : Peer) (ps : List Peer) (i : ℕ) → i ≡ 0 → goes_on is_end q ≡ false
    → filter (goes_on is_end) (remove (q ∷ ps) i) ≡ filter (goes_on is_end) (q ∷ ps)
first_dropped is_end q ps zero at e = sym (left_of is_end q ps false e)
first_dropped is_end q ps (suc i) at e = absurd (omega (arith, at))

later_dropped : (is_end : Bool) (q : Peer) (ps : List Peer) (i : ℕ)
    → ((j : ℕ) → j ≡ first_over is_end ps → j < length ps → filter (goes_on is_end) (remove ps j) ≡ filter (goes_on is_end) ps)
    → i ≡ first_over is_end ps + 1 → i < length (q ∷ ps) → goes_on is_end q ≡ true → filter (goes_on is_end) (remove (q ∷ ps) i) ≡ filter (goes_on is_end) (q ∷ ps)
later_dropped is_end q ps zero below at within e = absurd (omega (arith, at))
later_dropped is_end q ps (suc i) below at within e =
    left_of is_end q (remove ps i) true e ∙ ap (λ (rs : List Peer). q ∷ rs) (below i (omega (arith, at)) (omega (arith, within))) ∙ sym (left_of is_end q ps true e)

pub dropped : (is_end : Bool) (ps : List Peer) (i : ℕ) → i ≡ first_over is_end ps → i < length ps → filter (goes_on is_end) (remove ps i) ≡ filter (goes_on is_end) ps
dropped is_end [] i at within = absurd (omega (arith, within))
dropped is_end (q ∷ ps) i at within = by (goes_on is_end q) refl (λ j a w. dropped is_end ps j a w)
  where
    by : (v : Bool) → goes_on is_end q ≡ v → ((j : ℕ) → j ≡ first_over is_end ps → j < length ps → filter (goes_on is_end) (remove ps j) ≡ filter (goes_on is_end) ps)
        → filter (goes_on is_end) (remove (q ∷ ps) i) ≡ filter (goes_on is_end) (q ∷ ps)
    by true e below = later_dropped is_end q ps i below (later is_end q ps i at e) within e
    by false e below = first_dropped is_end q ps i (first is_end q ps i at e) e

pub none_dropped : (is_end : Bool) (ps : List Peer) → length ps ≤ first_over is_end ps → filter (goes_on is_end) ps ≡ ps
none_dropped is_end [] past = refl
none_dropped is_end (q ∷ ps) past = by (goes_on is_end q) refl (λ few. none_dropped is_end ps few)
  where
    by : (v : Bool) → goes_on is_end q ≡ v → (length ps ≤ first_over is_end ps → filter (goes_on is_end) ps ≡ ps) → filter (goes_on is_end) (q ∷ ps) ≡ q ∷ ps
    by true e below =
        left_of is_end q ps true e ∙ ap (λ (rs : List Peer). q ∷ rs) (below (omega (arith, past, later is_end q ps (first_over is_end (q ∷ ps)) refl e)))
    by false e below = absurd (omega (arith, past, first is_end q ps (first_over is_end (q ∷ ps)) refl e))
