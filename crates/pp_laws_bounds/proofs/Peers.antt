-- What the place of an ask tells of the connections that are there.
use Rattle.std.proofs.Common.{◌≡◌, ◌⊎◌, refl, ℕ, ◌<◌, ◌≤◌, min, nat_le, Bool, true, false, if◌then◌else◌, List, [], ◌∷◌, filter, fold, Option, Some, None, unwrap_or, option_map, inl, inr, sym, subst, ap, ◌∙◌, arith}
use Rattle.std.proofs.lemmas.Bool.Decides.{nat_tests}
use Rattle.pp_peers.specs.Peers.{Loaded}
use Rattle.pp_peers.specs.Placing.{first_of, pipelined_place}
use Rattle.pp_peers.specs.Searches.{Weight, is_idle, is_lighter, is_of, lighter_of, lightest, lightest_of, lowest, lowest_idle, numbers, takes_more, weights}
use Rattle.pp_peers.specs.declared.placing.Placed.TheVariants.{On, Dial, CloseThenDial, Wait}
use Rattle.pp_peers.specs.declared.placing.Placed.{Placed}
use Rattle.pp_laws.specs.Runs.{IsIn}
use Rattle.pp_laws.proofs.Lists.{in_filter, in_map}

-- ---- the best of some is one of them

fold_in : {A : Type 0} (f : A → A → A) → ((a b : A) → (f a b ≡ a) ⊎ (f a b ≡ b)) → (z : A) (xs : List A) → IsIn (fold f z xs) (z ∷ xs)
fold_in f one z [] = inl refl
fold_in f one z (x ∷ xs) = by (one z x) (fold_in f one (f z x) xs)
  where
    by : (f z x ≡ z) ⊎ (f z x ≡ x) → IsIn (fold f (f z x) xs) (f z x ∷ xs) → IsIn (fold f (f z x) xs) (z ∷ x ∷ xs)
    by (inl a) (inl e) = inl (e ∙ a)
    by (inr b) (inl e) = inr (inl (e ∙ b))
    by o (inr i) = inr (inr i)

min_one : (a b : ℕ) → (min a b ≡ a) ⊎ (min a b ≡ b)
min_one a b = by (nat_le a b) refl
  where
    by : (t : Bool) → nat_le a b ≡ t → (min a b ≡ a) ⊎ (min a b ≡ b)
    by true is = let le : a ≤ b = grind (arith, nat_tests) in inl (omega arith)
    by false isnt = let lt : b < a = grind (arith, nat_tests) in inr (omega arith)

lighter_one : (v w : Weight) → (lighter_of v w ≡ v) ⊎ (lighter_of v w ≡ w)
lighter_one v w = by (is_lighter w v)
  where
    by : (t : Bool) → ((if t then w else v) ≡ v) ⊎ ((if t then w else v) ≡ w)
    by true = inr refl
    by false = inl refl

lowest_in : (ns : List ℕ) (n : ℕ) → lowest ns ≡ Some n → IsIn n ns
lowest_in [] n is = absurd (cc is)
lowest_in (m ∷ ms) n is = let e : fold min m ms ≡ n = cc in subst (λ x. IsIn x (m ∷ ms)) e (fold_in min min_one m ms)

lightest_in : (ws : List Weight) (w : Weight) → lightest_of ws ≡ Some w → IsIn w ws
lightest_in [] w is = absurd (cc is)
lightest_in (v ∷ vs) w is = let e : fold lighter_of v vs ≡ w = cc in subst (λ x. IsIn x (v ∷ vs)) e (fold_in lighter_of lighter_one v vs)

-- one of that number, of which the test holds
abbrev pub Has : (Loaded → Bool) → ℕ → List Loaded → Type 0
Has test n peers = (p : Loaded) × IsIn p peers × (p.number ≡ n) × (test p ≡ true)

pub idle_there : (among : Loaded → Bool) (peers : List Loaded) (n : ℕ) → lowest_idle among peers ≡ Some n → Has (is_idle among) n peers
idle_there among peers n is =
    let r = in_map (λ (p : Loaded). p.number) n (filter (is_idle among) peers) (lowest_in (numbers (is_idle among) peers) n is) in
    let w = in_filter (is_idle among) r.was peers r.there in
    (r.was, w.0, sym r.is, w.1)

pub lightest_there : (among : Loaded → Bool) (peers : List Loaded) (w : Weight) → lightest among peers ≡ Some w → Has (takes_more among) w.1 peers
lightest_there among peers w is =
    let r = in_map (λ (p : Loaded). (p.load.outstanding, p.number)) w (filter (takes_more among) peers) (lightest_in (weights (takes_more among) peers) w is) in
    let v = in_filter (takes_more among) r.was peers r.there in
    (r.was, v.0, sym (ap (λ (x : Weight). x.1) r.is), v.1)

-- ---- by what was placed

-- a new connection has room beside all that are there, or an idle one gives way
abbrev pub NewPlace : Bool → Bool → Option ℕ → Option ℕ → Placed → Type 0
NewPlace b c x y p = ((p ≡ Dial) × (b ≡ true) × (c ≡ true)) ⊎ ((n : ℕ) × (p ≡ CloseThenDial n) × ((x ≡ Some n) ⊎ (y ≡ Some n)))

pub new_by : (b c : Bool) (x y : Option ℕ) (p : Placed) → (if b then (if c then Some Dial else option_map CloseThenDial x) else option_map CloseThenDial y) ≡ Some p → NewPlace b c x y p
new_by true true x y p is = let e : p ≡ Dial = cc in inl (e, refl, refl)
new_by true false (Some n) y p is = let e : p ≡ CloseThenDial n = cc in inr (n, e, inl refl)
new_by true false None y p is = absurd (cc is)
new_by false c x (Some n) p is = let e : p ≡ CloseThenDial n = cc in inr (n, e, inr refl)
new_by false c x None p is = absurd (cc is)

abbrev pub PlaceBy : Option ℕ → Option Placed → Option Placed → Placed → Type 0
PlaceBy idle new piped p = (p ≡ Wait) ⊎ ((new ≡ Some p) ⊎ (((n : ℕ) × (idle ≡ Some n) × (p ≡ On n)) ⊎ (piped ≡ Some p)))

pub place_by : (alone : Bool) (idle : Option ℕ) (new piped : Option Placed) (p : Placed) → (if alone then unwrap_or new Wait else unwrap_or (first_of (option_map On idle) (first_of new piped)) Wait) ≡ p → PlaceBy idle new piped p
place_by true idle (Some q) piped p is = inr (inl (ap (λ x. Some x) is))
place_by true idle None piped p is = inl (sym is)
place_by false (Some n) new piped p is = inr (inr (inl (n, refl, sym is)))
place_by false None (Some q) piped p is = inr (inl (ap (λ x. Some x) is))
place_by false None None (Some q) p is = inr (inr (inr (ap (λ x. Some x) is)))
place_by false None None None p is = inl (sym is)

weight_by : (o : Option Weight) (p : Placed) → option_map (λ w. On w.1) o ≡ Some p → (w : Weight) × (o ≡ Some w) × (p ≡ On w.1)
weight_by None p is = absurd (cc is)
weight_by (Some w) p is = let e : p ≡ On w.1 = cc in (w, refl, e)

pub piped_by : (pipelines : Bool) (host : List ℕ) (port : ℕ) (peers : List Loaded) (p : Placed) → pipelined_place pipelines host port peers ≡ Some p → (w : Weight) × (lightest (is_of host port) peers ≡ Some w) × (p ≡ On w.1)
piped_by false host port peers p is = absurd (cc is)
piped_by true host port peers p is = weight_by (lightest (is_of host port) peers) p is
