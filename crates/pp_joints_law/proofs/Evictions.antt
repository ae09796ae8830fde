-- How eviction stands in the program and in the law: alike, where both note the use of chunks, where one alone does, and where no more are used.
use Rattle.std.proofs.Common.{◌≡◌, ◌≤◌, ◌<◌, ◌⊎◌, inl, inr, refl, sym, subst, ap, ◌∙◌, ℕ, suc, Bool, true, false, ◌||◌, length, nat_le, List, [], ◌∷◌, Option, None, cond, le_trans, arith}
use Rattle.std.proofs.lemmas.Bool.Decides.{nat_tests}
use Rattle.pp_cache.specs.Memory.{all_used}
use Rattle.pp_cache_law.specs.Pairs.{AreAll}
use Rattle.pp_holes.specs.Places.{Chunk}
use Rattle.pp_law.specs.State.{State}
use Rattle.pp_state.specs.Pins.{pins}
use Rattle.pp_state.specs.declared.state.State.{State as Turn}
use Rattle.pp_steps.specs.Evicting.{next_victim}
use Rattle.pp_joints_law.specs.DataTies.{AreAlike, EvictAlike}

-- ---- of marks

-- no more are used
pub alike_fewer : (b c : Bool) (n k m f : ℕ) → k ≤ n → AreAlike b c n m f → AreAlike b c k m f
alike_fewer b c n k m f less (inl both) = inl both
alike_fewer b c n k m f less (inr (inl few)) = inr (inl (few.0, below k n m less few.1))
  where
    below : (k n m : ℕ) → k ≤ n → n < m → k < m
    below k n m one two = omega (arith, one, two)
alike_fewer b c n k m f less (inr (inr none)) = inr (inr (none.0, le_trans less none.1))

-- which were looked for in both
pub alike_noted : (b c : Bool) (n k m f : ℕ) → AreAlike b c n m f → AreAlike (b || nat_le m k) (c || nat_le m k) k m f
alike_noted b c n k m f is = by (nat_le m k) refl is
  where
    begun : (d : Bool) → (d || true) ≡ true
    begun true = refl
    begun false = refl

    as_it_was : (d : Bool) → (d || false) ≡ d
    as_it_was true = refl
    as_it_was false = refl

    below : (m k : ℕ) → nat_le m k ≡ false → k < m
    below m k isnt = grind (arith, nat_tests)

    less : (m k f : ℕ) → k < m → m ≤ f → k ≤ f
    less m k f one two = omega (arith, one, two)

    by : (t : Bool) → nat_le m k ≡ t → AreAlike b c n m f → AreAlike (b || t) (c || t) k m f
    by true at is = inl (begun b, begun c)
    by false at (inl both) = inl (as_it_was b ∙ both.0, as_it_was c ∙ both.1)
    by false at (inr (inl few)) = inr (inl (as_it_was b ∙ few.0 ∙ sym (as_it_was c), below m k at))
    by false at (inr (inr none)) = inr (inr (none.0, less m k f (below m k at) none.0))

-- or in one alone, where as many are used as before
below_not : (m n : ℕ) → n < m → nat_le m n ≡ false
below_not m n less = grind (arith, nat_tests)

same_where : (d t : Bool) → t ≡ false → (d || t) ≡ d
same_where true t is = refl
same_where false t is = is

true_still : (d t : Bool) → d ≡ true → (d || t) ≡ true
true_still d t is = ap (λ (x : Bool). x || t) is

pub alike_turn : (b c : Bool) (n m f : ℕ) → AreAlike b c n m f → AreAlike (b || nat_le m n) c n m f
alike_turn b c n m f (inl both) = inl (true_still b (nat_le m n) both.0, both.1)
alike_turn b c n m f (inr (inl few)) = inr (inl (same_where b (nat_le m n) (below_not m n few.1) ∙ few.0, few.1))
alike_turn b c n m f (inr (inr none)) = inr (inr none)

pub alike_law : (b c : Bool) (n m f : ℕ) → AreAlike b c n m f → AreAlike b (c || nat_le m n) n m f
alike_law b c n m f (inl both) = inl (both.0, true_still c (nat_le m n) both.1)
alike_law b c n m f (inr (inl few)) = inr (inl (few.0 ∙ sym (same_where c (nat_le m n) (below_not m n few.1)), few.1))
alike_law b c n m f (inr (inr none)) = inr (inr none)

-- where none was reached in both, and as few are used as a turn leaves
pub alike_first : (b c : Bool) (n m f : ℕ) → b ≡ c → (n < m) ⊎ (n ≤ f) → AreAlike b c n m f
alike_first b c n m f same (inl few) = inr (inl (same, few))
alike_first b c n m f same (inr none) = by (nat_le m n) refl
  where
    reached : (m n f : ℕ) → nat_le m n ≡ true → n ≤ f → m ≤ f
    reached m n f is le = grind (arith, nat_tests)

    below : (m n : ℕ) → nat_le m n ≡ false → n < m
    below m n isnt = grind (arith, nat_tests)

    by : (t : Bool) → nat_le m n ≡ t → AreAlike b c n m f
    by true is = inr (inr (reached m n f is none, none))
    by false is = inr (inl (same, below m n is))

-- ---- of states

-- eviction begins in neither, and no more are used
pub record IsNoMoreInBoth (p q : Turn) (s t : State) : Type 0 where
  pub turn : q.is_evicting ≡ p.is_evicting
  pub law : t.is_evicting ≡ s.is_evicting
  pub trigger : q.trigger ≡ p.trigger
  pub floor : q.floor ≡ p.floor
  pub few : length q.cache.chunks ≤ length p.cache.chunks

-- as both show as many before and behind
pub few_in_both : (a b c d : ℕ) → a ≡ b → b ≤ c → d ≡ c → a ≤ d
few_in_both a b c d one less two = omega (arith, one, less, two)

pub alike_as : (q : Turn) (t : State) (b c : Bool) (m f : ℕ) → q.is_evicting ≡ b → t.is_evicting ≡ c → q.trigger ≡ m → q.floor ≡ f → AreAlike b c (length q.cache.chunks) m f → EvictAlike q t
alike_as q t b c m f turn law trigger floor is =
    subst (λ (d : Bool). AreAlike d t.is_evicting (length q.cache.chunks) q.trigger q.floor) (sym turn)
    (subst (λ (d : Bool). AreAlike b d (length q.cache.chunks) q.trigger q.floor) (sym law)
    (subst (λ (i : ℕ). AreAlike b c (length q.cache.chunks) i q.floor) (sym trigger) (subst (λ (i : ℕ). AreAlike b c (length q.cache.chunks) m i) (sym floor) is)))

pub alike_still : (p q : Turn) (s t : State) → IsNoMoreInBoth p q s t → EvictAlike p s → EvictAlike q t
alike_still p q s t more is =
    alike_as q t p.is_evicting s.is_evicting p.trigger p.floor more.turn more.law more.trigger more.floor
    (alike_fewer p.is_evicting s.is_evicting (length p.cache.chunks) (length q.cache.chunks) p.trigger p.floor more.few is)

-- as many are used in both
pub lengths : {A B : Type 0} (R : A → B → Type 0) (xs : List A) (ys : List B) → AreAll R xs ys → length xs ≡ length ys
lengths R [] [] all = refl
lengths R [] (y ∷ ys) all = absurd all
lengths R (x ∷ xs) [] all = absurd all
lengths R (x ∷ xs) (y ∷ ys) all = ap (λ (n : ℕ). suc n) (lengths R xs ys all.1)

-- ---- and what has to go

used_length : (cs : List Chunk) → length (all_used cs) ≡ length cs
used_length [] = refl
used_length (c ∷ cs) = ap (λ (n : ℕ). suc n) (used_length cs)

none_below : (places : List (ℕ × ℕ)) (floor : ℕ) (cs : List Chunk) → length cs ≤ floor → next_victim places floor cs ≡ None
none_below places floor cs few = none_where (nat_le (length (all_used cs)) floor) _ (within (length (all_used cs)) (length cs) floor (used_length cs) few)
  where
    none_where : (b : Bool) (o : Option (ℕ × ℕ)) → b ≡ true → cond b None o ≡ None
    none_where b o is = ap (λ (c : Bool). cond c None o) is

    within : (m n f : ℕ) → m ≡ n → n ≤ f → nat_le m f ≡ true
    within m n f same few = grind (arith, nat_tests)

abbrev LeavesAlike : Turn → State → Type 0
LeavesAlike q s = (q.is_evicting ≡ s.is_evicting) ⊎ (next_victim (pins q) q.floor q.cache.chunks ≡ None)

pub alike_leaves : (p q : Turn) (s : State) → q ≡ p → EvictAlike p s → LeavesAlike q s
alike_leaves p q s same is = subst (λ (r : Turn). LeavesAlike r s) (sym same) (by is)
  where
    by : EvictAlike p s → LeavesAlike p s
    by (inl both) = inl (both.0 ∙ sym both.1)
    by (inr (inl few)) = inl few.0
    by (inr (inr none)) = inr (none_below (pins p) p.floor p.cache.chunks none.1)
