-- A list that is seen through an order of numbers: what a change at one number does to what is seen.
use Rattle.std.proofs.Common.{ℕ, ◌≡◌, Bool, true, false, ◌==◌, not, cond, List, [], ◌∷◌, ◌++◌, map, arith, refl, sym, ◌∙◌, ap, Some, ◌⊎◌, inl, inr}
use Rattle.std.proofs.lemmas.Grind.{common_steps}
use Rattle.std.proofs.lemmas.Bool.{cases_eq}
use Rattle.std.proofs.lemmas.List.{map-append}
use Rattle.std.specs.List.{filter, find}
use Rattle.pp_pool.specs.Chunks.{is_in, is_not, AreDistinct}

-- the seen one of a number
abbrev pub is_numbered : {U : Type 0} → (U → ℕ) → ℕ → U → Bool
is_numbered number c u = number u == c

abbrev pub is_apart : {U : Type 0} → (U → ℕ) → ℕ → U → Bool
is_apart number c u = not (number u == c)

test_true : (n c : ℕ) → n ≡ c → (n == c) ≡ true
test_true n c h = grind (arith, common_steps)

test_false : (n c : ℕ) → (n ≡ c → ⊥) → (n == c) ≡ false
test_false n c h = grind (arith, common_steps)

not_first : (c n : ℕ) (ns : List ℕ) → is_in c (n ∷ ns) ≡ false → n ≡ c → ⊥
not_first c n ns h e = absurd (grind (arith, common_steps))

not_rest : (c n : ℕ) (ns : List ℕ) → is_in c (n ∷ ns) ≡ false → is_in c ns ≡ false
not_rest c n ns h = grind (arith, common_steps)

in_rest : (c n : ℕ) (ns : List ℕ) → is_in c (n ∷ ns) ≡ true → (n ≡ c → ⊥) → is_in c ns ≡ true
in_rest c n ns h apart = grind (arith, common_steps)

same_number : (c n : ℕ) (ns : List ℕ) → is_in n ns ≡ false → n ≡ c → is_in c ns ≡ false
same_number c n ns h e = ap (λ m. is_in m ns) (sym e) ∙ h

pub map_agree : {U : Type 0} (f g : ℕ → U) (ns : List ℕ) → ((n : ℕ) → is_in n ns ≡ true → f n ≡ g n) → map f ns ≡ map g ns
map_agree f g [] h = refl
map_agree f g (n ∷ ns) h =
    ap (λ u. u ∷ map f ns) (h n (grind (arith, common_steps)))
    ∙ ap (λ us. g n ∷ us) (map_agree f g ns (λ m k. h m (grind (arith, common_steps))))

pub map_map : {U V : Type 0} (f : ℕ → U) (g : U → V) (ns : List ℕ) → map g (map f ns) ≡ map (λ n. g (f n)) ns
map_map f g [] = refl
map_map f g (n ∷ ns) = ap (λ us. g (f n) ∷ us) (map_map f g ns)

-- the numbers of what is seen
pub numbers_seen : {U : Type 0} (number : U → ℕ) (f : ℕ → U) → ((n : ℕ) → number (f n) ≡ n) → (ns : List ℕ) → map number (map f ns) ≡ ns
numbers_seen number f is [] = refl
numbers_seen number f is (n ∷ ns) = ap (λ m. m ∷ map number (map f ns)) (is n) ∙ ap (λ ms. n ∷ ms) (numbers_seen number f is ns)

-- one number leaves
left_by : {U : Type 0} (number : U → ℕ) (f g : ℕ → U) (c n : ℕ) (ns : List ℕ) → ((m : ℕ) → number (f m) ≡ m) → ((m : ℕ) → (m ≡ c → ⊥) → g m ≡ f m) → (n ≡ c) ⊎ (n ≡ c → ⊥)
    → map g (filter (is_not c) ns) ≡ filter (is_apart number c) (map f ns)
    → map g (filter (is_not c) (n ∷ ns)) ≡ filter (is_apart number c) (map f (n ∷ ns))
left_by number f g c n ns is else (inl q) ih = rw (is n, test_true n c q) ih
left_by number f g c n ns is else (inr q) ih =
    rw (is n, test_false n c q) (ap (λ u. u ∷ map g (filter (is_not c) ns)) (else n q) ∙ ap (λ us. f n ∷ us) ih)

pub seen-left : {U : Type 0} (number : U → ℕ) (f g : ℕ → U) (c : ℕ) (ns : List ℕ) → ((m : ℕ) → number (f m) ≡ m) → ((m : ℕ) → (m ≡ c → ⊥) → g m ≡ f m)
    → map g (filter (is_not c) ns) ≡ filter (is_apart number c) (map f ns)
seen-left number f g c [] is else = refl
seen-left number f g c (n ∷ ns) is else = left_by number f g c n ns is else (cases_eq n c) (seen-left number f g c ns is else)

-- what stands at one number is changed
changed_at : {U : Type 0} (number : U → ℕ) (f g : ℕ → U) (h : U → U) (c n : ℕ) → ((m : ℕ) → number (f m) ≡ m) → ((m : ℕ) → (m ≡ c → ⊥) → g m ≡ f m) → g c ≡ h (f c)
    → (n ≡ c) ⊎ (n ≡ c → ⊥) → g n ≡ cond (number (f n) == c) (h (f n)) (f n)
changed_at number f g h c n is else here (inl q) = rw (is n, test_true n c q, q) here
changed_at number f g h c n is else here (inr q) = rw (is n, test_false n c q) (else n q)

pub seen-changed : {U : Type 0} (number : U → ℕ) (f g : ℕ → U) (h : U → U) (c : ℕ) (ns : List ℕ) → ((m : ℕ) → number (f m) ≡ m) → ((m : ℕ) → (m ≡ c → ⊥) → g m ≡ f m) → g c ≡ h (f c)
    → map g ns ≡ map (λ u. cond (number u == c) (h u) u) (map f ns)
seen-changed number f g h c ns is else here =
    map_agree g (λ n. cond (number (f n) == c) (h (f n)) (f n)) ns (λ n k. changed_at number f g h c n is else here (cases_eq n c))
    ∙ sym (map_map f (λ u. cond (number u == c) (h u) u) ns)

-- a number joins at the end
pub seen-joined : {U : Type 0} (f g : ℕ → U) (c : ℕ) (ns : List ℕ) → ((m : ℕ) → (m ≡ c → ⊥) → g m ≡ f m) → is_in c ns ≡ false → map g (ns ++ c ∷ []) ≡ map f ns ++ g c ∷ []
seen-joined f g c ns else out =
    map-append g ns (c ∷ [])
    ∙ ap (λ us. us ++ g c ∷ []) (map_agree g f ns (λ n k. else n (λ e. absurd (grind (arith, common_steps)))))

-- just one is seen of a number that is there
none_seen : {U : Type 0} (number : U → ℕ) (f : ℕ → U) (c : ℕ) (ns : List ℕ) → ((m : ℕ) → number (f m) ≡ m) → is_in c ns ≡ false → filter (is_numbered number c) (map f ns) ≡ []
none_seen number f c [] is out = refl
none_seen number f c (n ∷ ns) is out = rw (is n, test_false n c (not_first c n ns out)) (none_seen number f c ns is (not_rest c n ns out))

one_by : {U : Type 0} (number : U → ℕ) (f : ℕ → U) (c n : ℕ) (ns : List ℕ) → ((m : ℕ) → number (f m) ≡ m) → AreDistinct (n ∷ ns) → is_in c (n ∷ ns) ≡ true → (n ≡ c) ⊎ (n ≡ c → ⊥)
    → (is_in c ns ≡ true → filter (is_numbered number c) (map f ns) ≡ f c ∷ []) → filter (is_numbered number c) (map f (n ∷ ns)) ≡ f c ∷ []
one_by number f c n ns is d there (inl q) ih =
    rw (is n, test_true n c q) (ap (λ us. f n ∷ us) (none_seen number f c ns is (same_number c n ns d.0 q)) ∙ ap (λ m. f m ∷ []) q)
one_by number f c n ns is d there (inr q) ih = rw (is n, test_false n c q) (ih (in_rest c n ns there q))

pub one_seen : {U : Type 0} (number : U → ℕ) (f : ℕ → U) (c : ℕ) (ns : List ℕ) → ((m : ℕ) → number (f m) ≡ m) → AreDistinct ns → is_in c ns ≡ true → filter (is_numbered number c) (map f ns) ≡ f c ∷ []
one_seen number f c [] is d there = absurd (grind (arith, common_steps))
one_seen number f c (n ∷ ns) is d there = one_by number f c n ns is d there (cases_eq n c) (λ k. one_seen number f c ns is d.1 k)

found_by : {U : Type 0} (number : U → ℕ) (f : ℕ → U) (c n : ℕ) (ns : List ℕ) → ((m : ℕ) → number (f m) ≡ m) → is_in c (n ∷ ns) ≡ true → (n ≡ c) ⊎ (n ≡ c → ⊥)
    → (is_in c ns ≡ true → find (is_numbered number c) (map f ns) ≡ Some (f c)) → find (is_numbered number c) (map f (n ∷ ns)) ≡ Some (f c)
found_by number f c n ns is there (inl q) ih = rw (is n, test_true n c q) (ap (λ m. Some (f m)) q)
found_by number f c n ns is there (inr q) ih = rw (is n, test_false n c q) (ih (in_rest c n ns there q))

pub seen-found : {U : Type 0} (number : U → ℕ) (f : ℕ → U) (c : ℕ) (ns : List ℕ) → ((m : ℕ) → number (f m) ≡ m) → is_in c ns ≡ true → find (is_numbered number c) (map f ns) ≡ Some (f c)
seen-found number f c [] is there = absurd (grind (arith, common_steps))
seen-found number f c (n ∷ ns) is there = found_by number f c n ns is there (cases_eq n c) (λ k. seen-found number f c ns is k)

-- a number moves to the end
pub seen-moved : {U : Type 0} (number : U → ℕ) (f : ℕ → U) (c : ℕ) (ns : List ℕ) → ((m : ℕ) → number (f m) ≡ m) → AreDistinct ns → is_in c ns ≡ true
    → map f (filter (is_not c) ns ++ c ∷ []) ≡ filter (is_apart number c) (map f ns) ++ filter (is_numbered number c) (map f ns)
seen-moved number f c ns is d there =
    map-append f (filter (is_not c) ns) (c ∷ [])
    ∙ ap (λ us. us ++ f c ∷ []) (seen-left number f f c ns is (λ m q. refl))
    ∙ ap (λ us. filter (is_apart number c) (map f ns) ++ us) (sym (one_seen number f c ns is d there))
