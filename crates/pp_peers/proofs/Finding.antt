-- Where a connection stands, and what is left when it is changed or taken out there.
use Rattle.std.proofs.Common.{◌≡◌, ◌<◌, ◌≤◌, ◌+◌, ◌==◌, ◌⊎◌, inl, ℕ, zero, suc, Bool, true, false, cond, List, [], ◌∷◌, get_or, set, drop, length, refl, sym, ◌∙◌, ap, arith, add-one, drop-cons, Option, Some, None}
use Rattle.std.specs.List.{find, remove}
use Rattle.std.proofs.lemmas.List.{drop_all}
use Rattle.pp_pipe.specs.Line.{Line}
use Rattle.pp_peers.specs.Peers.{is_number, place_in, with_peer, with_pipe, without}
use Rattle.pp_peers.specs.declared.peers.Peer.{Peer}

next : (ps : List Peer) (i : ℕ) (p : Peer) → i < length ps → p ≡ get_or ps i p → drop i ps ≡ p ∷ drop (i + 1) ps
next ps i p within is = rw add-one (drop-cons ps i p within) ∙ ap (λ q. q ∷ drop (i + 1) ps) (sym is)

pub found : (number : ℕ) (ps : List Peer) (i : ℕ) (p : Peer) → i < length ps → p ≡ get_or ps i p → (p.number == number) ≡ true → place_in number (drop i ps) ≡ 0
found number ps i p within is passes = ap (place_in number) (next ps i p within is) ∙ ap (λ b. cond b 0 (place_in number (drop (i + 1) ps) + 1)) passes

pub passed : (number : ℕ) (ps : List Peer) (i : ℕ) (p : Peer) → i < length ps → p ≡ get_or ps i p → (p.number == number) ≡ false
    → place_in number (drop i ps) ≡ place_in number (drop (i + 1) ps) + 1
passed number ps i p within is passes = ap (place_in number) (next ps i p within is) ∙ ap (λ b. cond b 0 (place_in number (drop (i + 1) ps) + 1)) passes

pub not_found : (number : ℕ) (ps : List Peer) (i : ℕ) → length ps ≤ i → place_in number (drop i ps) ≡ 0
not_found number ps i past = ap (place_in number) (drop_all i ps past)

-- ---- its place, by the test of the first

first : (number : ℕ) (q : Peer) (ps : List Peer) (i : ℕ) → i ≡ place_in number (q ∷ ps) → is_number number q ≡ true → i ≡ 0
first number q ps i at e = at ∙ ap (λ b. cond b 0 (place_in number ps + 1)) e

later : (number : ℕ) (q : Peer) (ps : List Peer) (i : ℕ) → i ≡ place_in number (q ∷ ps) → is_number number q ≡ false → i ≡ place_in number ps + 1
later number q ps i at e = at ∙ ap (λ b. cond b 0 (place_in number ps + 1)) e

-- ---- its pipe changes

set_first : (q p : Peer) (ps : List Peer) (line : Line) (i : ℕ) → i ≡ 0 → p ≡ get_or (q ∷ ps) i p → set (q ∷ ps) i (record p { pipe = line }) ≡ (record q { pipe = line }) ∷ ps
set_first q p ps line zero at is = ap (λ (r : Peer). (record r { pipe = line }) ∷ ps) is
set_first q p ps line (suc i) at is = absurd (omega (arith, at))

set_later : (number : ℕ) (q p : Peer) (ps : List Peer) (line : Line) (i : ℕ)
    → ((j : ℕ) → j ≡ place_in number ps → j < length ps → p ≡ get_or ps j p → set ps j (record p { pipe = line }) ≡ with_pipe number line ps)
    → i ≡ place_in number ps + 1 → i < length (q ∷ ps) → p ≡ get_or (q ∷ ps) i p → set (q ∷ ps) i (record p { pipe = line }) ≡ q ∷ with_pipe number line ps
set_later number q p ps line zero below at within is = absurd (omega (arith, at))
set_later number q p ps line (suc i) below at within is = ap (λ (rs : List Peer). q ∷ rs) (below i (omega (arith, at)) (omega (arith, within)) is)

pub set_at : (number : ℕ) (ps : List Peer) (i : ℕ) (p : Peer) (line : Line) → i ≡ place_in number ps → i < length ps → p ≡ get_or ps i p → set ps i (record p { pipe = line }) ≡ with_pipe number line ps
set_at number [] i p line at within is = absurd (omega (arith, within))
set_at number (q ∷ ps) i p line at within is =
    by (is_number number q) refl (λ e. set_later number q p ps line i (λ j a w s. set_at number ps j p line a w s) (later number q ps i at e) within is)
  where
    by : (v : Bool) → is_number number q ≡ v → (is_number number q ≡ false → set (q ∷ ps) i (record p { pipe = line }) ≡ q ∷ with_pipe number line ps)
        → set (q ∷ ps) i (record p { pipe = line }) ≡ with_pipe number line (q ∷ ps)
    by true e below = set_first q p ps line i (first number q ps i at e) is ∙ sym (ap (λ b. cond b ((record q { pipe = line }) ∷ ps) (q ∷ with_pipe number line ps)) e)
    by false e below = below e ∙ sym (ap (λ b. cond b ((record q { pipe = line }) ∷ ps) (q ∷ with_pipe number line ps)) e)

-- ---- it changes itself

peer_set_first : (q r : Peer) (ps : List Peer) (i : ℕ) → i ≡ 0 → set (q ∷ ps) i r ≡ r ∷ ps
peer_set_first q r ps zero at = refl
peer_set_first q r ps (suc i) at = absurd (omega (arith, at))

peer_set_later : (number : ℕ) (q r : Peer) (ps : List Peer) (i : ℕ) → ((j : ℕ) → j ≡ place_in number ps → j < length ps → set ps j r ≡ with_peer number r ps)
    → i ≡ place_in number ps + 1 → i < length (q ∷ ps) → set (q ∷ ps) i r ≡ q ∷ with_peer number r ps
peer_set_later number q r ps zero below at within = absurd (omega (arith, at))
peer_set_later number q r ps (suc i) below at within = ap (λ (rs : List Peer). q ∷ rs) (below i (omega (arith, at)) (omega (arith, within)))

pub peer_set_at : (number : ℕ) (ps : List Peer) (i : ℕ) (r : Peer) → i ≡ place_in number ps → i < length ps → set ps i r ≡ with_peer number r ps
peer_set_at number [] i r at within = absurd (omega (arith, within))
peer_set_at number (q ∷ ps) i r at within = by (is_number number q) refl (λ e. peer_set_later number q r ps i (λ j a w. peer_set_at number ps j r a w) (later number q ps i at e) within)
  where
    by : (v : Bool) → is_number number q ≡ v → (is_number number q ≡ false → set (q ∷ ps) i r ≡ q ∷ with_peer number r ps) → set (q ∷ ps) i r ≡ with_peer number r (q ∷ ps)
    by true e below = peer_set_first q r ps i (first number q ps i at e) ∙ sym (ap (λ b. cond b (r ∷ ps) (q ∷ with_peer number r ps)) e)
    by false e below = below e ∙ sym (ap (λ b. cond b (r ∷ ps) (q ∷ with_peer number r ps)) e)

-- what is left of a loan, at each value of what was lent
pub same_lent : {N A B C : Type 0} (name : N) (f g : A → B) → ((a : A) → f a ≡ g a) → ◌≡◌ {A = (N × (A → B)) ⊎ C} (inl (name, f)) (inl (name, g))
same_lent name f g same = λ i. inl (name, λ a. same a i)

-- ---- it is taken out

remove_first : (q : Peer) (ps : List Peer) (i : ℕ) → i ≡ 0 → remove (q ∷ ps) i ≡ ps
remove_first q ps zero at = refl
remove_first q ps (suc i) at = absurd (omega (arith, at))

removed_later : (number : ℕ) (q : Peer) (ps : List Peer) (i : ℕ) → ((j : ℕ) → j ≡ place_in number ps → j < length ps → remove ps j ≡ without number ps)
    → i ≡ place_in number ps + 1 → i < length (q ∷ ps) → remove (q ∷ ps) i ≡ q ∷ without number ps
removed_later number q ps zero below at within = absurd (omega (arith, at))
removed_later number q ps (suc i) below at within = ap (λ (rs : List Peer). q ∷ rs) (below i (omega (arith, at)) (omega (arith, within)))

pub removed_at : (number : ℕ) (ps : List Peer) (i : ℕ) → i ≡ place_in number ps → i < length ps → remove ps i ≡ without number ps
removed_at number [] i at within = absurd (omega (arith, within))
removed_at number (q ∷ ps) i at within = by (is_number number q) refl (λ e. removed_later number q ps i (λ j a w. removed_at number ps j a w) (later number q ps i at e) within)
  where
    by : (v : Bool) → is_number number q ≡ v → (is_number number q ≡ false → remove (q ∷ ps) i ≡ q ∷ without number ps) → remove (q ∷ ps) i ≡ without number (q ∷ ps)
    by true e below = remove_first q ps i (first number q ps i at e) ∙ sym (ap (λ b. cond b ps (q ∷ without number ps)) e)
    by false e below = below e ∙ sym (ap (λ b. cond b ps (q ∷ without number ps)) e)

pub none_removed : (number : ℕ) (ps : List Peer) → length ps ≤ place_in number ps → without number ps ≡ ps
none_removed number [] past = refl
none_removed number (q ∷ ps) past = by (is_number number q) refl (λ few. none_removed number ps few)
  where
    by : (v : Bool) → is_number number q ≡ v → (length ps ≤ place_in number ps → without number ps ≡ ps) → without number (q ∷ ps) ≡ q ∷ ps
    by true e below = absurd (omega (arith, past, first number q ps (place_in number (q ∷ ps)) refl e))
    by false e below = ap (λ b. cond b ps (q ∷ without number ps)) e ∙ ap (λ (rs : List Peer). q ∷ rs) (below (omega (arith, past, later number q ps (place_in number (q ∷ ps)) refl e)))

-- ---- it is the first that has its number

find_first : (q p : Peer) (ps : List Peer) (i : ℕ) → i ≡ 0 → p ≡ get_or (q ∷ ps) i p → ◌≡◌ {A = Option Peer} (Some q) (Some p)
find_first q p ps zero at is = ap Some (sym is)
find_first q p ps (suc i) at is = absurd (omega (arith, at))

find_later : (number : ℕ) (q p : Peer) (ps : List Peer) (i : ℕ) → ((j : ℕ) → j ≡ place_in number ps → j < length ps → p ≡ get_or ps j p → find (is_number number) ps ≡ Some p)
    → i ≡ place_in number ps + 1 → i < length (q ∷ ps) → p ≡ get_or (q ∷ ps) i p → find (is_number number) ps ≡ Some p
find_later number q p ps zero below at within is = absurd (omega (arith, at))
find_later number q p ps (suc i) below at within is = below i (omega (arith, at)) (omega (arith, within)) is

pub find_at : (number : ℕ) (ps : List Peer) (i : ℕ) (p : Peer) → i ≡ place_in number ps → i < length ps → p ≡ get_or ps i p → find (is_number number) ps ≡ Some p
find_at number [] i p at within is = absurd (omega (arith, within))
find_at number (q ∷ ps) i p at within is = by (is_number number q) refl (λ e. find_later number q p ps i (λ j a w s. find_at number ps j p a w s) (later number q ps i at e) within is)
  where
    by : (v : Bool) → is_number number q ≡ v → (is_number number q ≡ false → find (is_number number) ps ≡ Some p) → find (is_number number) (q ∷ ps) ≡ Some p
    by true e below = ap (λ b. cond b (Some q) (find (is_number number) ps)) e ∙ find_first q p ps i (first number q ps i at e) is
    by false e below = ap (λ b. cond b (Some q) (find (is_number number) ps)) e ∙ below e

pub none_found : (number : ℕ) (ps : List Peer) → length ps ≤ place_in number ps → find (is_number number) ps ≡ None
none_found number [] past = refl
none_found number (q ∷ ps) past = by (is_number number q) refl (λ few. none_found number ps few)
  where
    by : (v : Bool) → is_number number q ≡ v → (length ps ≤ place_in number ps → find (is_number number) ps ≡ None) → find (is_number number) (q ∷ ps) ≡ None
    by true e below = absurd (omega (arith, past, first number q ps (place_in number (q ∷ ps)) refl e))
    by false e below = ap (λ b. cond b (Some q) (find (is_number number) ps)) e ∙ below (omega (arith, past, later number q ps (place_in number (q ∷ ps)) refl e))
