-- A number leaves a chain of links, or comes between two neighbours: the chain that is left.
use Rattle.std.proofs.Common.{ℕ, ◌<◌, ◌≡◌, true, false, ◌==◌, List, [], ◌∷◌, ◌++◌, length, get_or, arith, refl, sym, ◌∙◌, ap, subst, zero, suc, ◌⊎◌, inl, inr}
use Rattle.std.proofs.lemmas.Grind.{common_steps}
use Rattle.std.proofs.lemmas.Bool.{cases_eq}
use Rattle.std.specs.List.{filter}
use Rattle.pp_pool.specs.Chunks.{is_in, is_not, AreDistinct}
use Rattle.pp_pool.specs.Rings.{IsChain, walk, first_or}
use Rattle.pp_pool.proofs.Numbers.{filter_absent, is_in_filter_same, is_in_filter_false, AreDistinct-filter}

-- `q` is put behind `p`, and all other links are as before
pub record Joins (next previous next' previous' : ℕ → ℕ) (p q : ℕ) : Type 0 where
  pub next_is : next' p ≡ q
  pub previous_is : previous' q ≡ p
  pub nexts : (n : ℕ) → (n ≡ p → ⊥) → next' n ≡ next n
  pub previouses : (n : ℕ) → (n ≡ q → ⊥) → previous' n ≡ previous n

test_true : (n c : ℕ) → n ≡ c → (n == c) ≡ true
test_true n c h = grind (arith, common_steps)

test_false : (n c : ℕ) → (n ≡ c → ⊥) → (n == c) ≡ false
test_false n c h = grind (arith, common_steps)

pub in_first : (n : ℕ) (ns : List ℕ) → is_in n (n ∷ ns) ≡ true
in_first n ns = grind (arith, common_steps)

in_more : (c n : ℕ) (ns : List ℕ) → is_in c ns ≡ true → is_in c (n ∷ ns) ≡ true
in_more c n ns h = grind (arith, common_steps)

pub not_first : (c n : ℕ) (ns : List ℕ) → is_in c (n ∷ ns) ≡ false → n ≡ c → ⊥
not_first c n ns h e = absurd (grind (arith, common_steps))

pub not_rest : (c n : ℕ) (ns : List ℕ) → is_in c (n ∷ ns) ≡ false → is_in c ns ≡ false
not_rest c n ns h = grind (arith, common_steps)

in_rest : (c n : ℕ) (ns : List ℕ) → is_in c (n ∷ ns) ≡ true → (n ≡ c → ⊥) → is_in c ns ≡ true
in_rest c n ns h apart = grind (arith, common_steps)

pub in_both : (c d : ℕ) (ns : List ℕ) → is_in c ns ≡ true → is_in d ns ≡ false → c ≡ d → ⊥
in_both c d ns h g e = absurd (grind (arith, common_steps, ap (λ m. is_in m ns) e))

flip : (a b : ℕ) → (a ≡ b → ⊥) → b ≡ a → ⊥
flip a b h e = h (sym e)

-- where each number stands, the walk over the links finds it
pub walk_is : (f g : ℕ → ℕ) (a b : ℕ) (ns : List ℕ) → IsChain f g a ns b → walk f (f a) (length ns) ≡ ns
walk_is f g a b [] ch = refl
walk_is f g a b (n ∷ ns) ch = ap (λ m. m ∷ walk f (f m) (length ns)) ch.0.0 ∙ ap (λ ms. n ∷ ms) (walk_is f g n b ns ch.1)

-- a chain is kept where one joins others outside of it
pub kept : (f g h k : ℕ → ℕ) (p q a b : ℕ) (ns : List ℕ) → IsChain f g a ns b → Joins f g h k p q
    → is_in p (a ∷ ns) ≡ false → is_in q ns ≡ false → (b ≡ q → ⊥) → IsChain h k a ns b
kept f g h k p q a b [] ch j from to last = (j.nexts a (not_first p a [] from) ∙ ch.0, j.previouses b last ∙ ch.1)
kept f g h k p q a b (n ∷ ns) ch j from to last = (
  (j.nexts a (not_first p a (n ∷ ns) from) ∙ ch.0.0, j.previouses n (not_first q n ns to) ∙ ch.0.1),
  kept f g h k p q n b ns ch.1 j (not_rest p a (n ∷ ns) from) (not_rest q n ns to) last,
)

-- what came behind `c` comes behind `a`
pub begun_at : (f g h k : ℕ → ℕ) (a b c : ℕ) (ns : List ℕ) → IsChain f g c ns b → Joins f g h k a (f c)
    → is_in a ns ≡ false → AreDistinct ns → is_in b ns ≡ false → IsChain h k a ns b
begun_at f g h k a b c [] ch j out d last = (j.next_is ∙ ch.0, ap k (sym ch.0) ∙ j.previous_is)
begun_at f g h k a b c (n ∷ ns) ch j out d last = (
  (j.next_is ∙ ch.0.0, ap k (sym ch.0.0) ∙ j.previous_is),
  kept f g h k a (f c) n b ns ch.1 j out (ap (λ m. is_in m ns) ch.0.0 ∙ d.0) (λ e. not_first b n ns last (sym (e ∙ ch.0.0))),
)

-- the neighbours of a number of the chain
previous_by : (f g : ℕ → ℕ) (a b c n : ℕ) (ns : List ℕ) → IsChain f g a (n ∷ ns) b → is_in c (n ∷ ns) ≡ true → (n ≡ c) ⊎ (n ≡ c → ⊥)
    → (is_in c ns ≡ true → is_in (g c) (n ∷ ns) ≡ true) → is_in (g c) (a ∷ n ∷ ns) ≡ true
previous_by f g a b c n ns ch there (inl q) ih = ap (λ m. is_in m (a ∷ n ∷ ns)) (ap g (sym q) ∙ ch.0.1) ∙ in_first a (n ∷ ns)
previous_by f g a b c n ns ch there (inr q) ih = in_more (g c) a (n ∷ ns) (ih (in_rest c n ns there q))

pub previous_in : (f g : ℕ → ℕ) (a b c : ℕ) (ns : List ℕ) → IsChain f g a ns b → is_in c ns ≡ true → is_in (g c) (a ∷ ns) ≡ true
previous_in f g a b c [] ch there = absurd (grind (arith, common_steps))
previous_in f g a b c (n ∷ ns) ch there = previous_by f g a b c n ns ch there (cases_eq n c) (λ h. previous_in f g n b c ns ch.1 h)

next_first : (f g : ℕ → ℕ) (a b : ℕ) (ns : List ℕ) → IsChain f g a ns b → f a ≡ first_or b ns
next_first f g a b [] ch = ch.0
next_first f g a b (n ∷ ns) ch = ch.0.0

first_in : (b : ℕ) (ns : List ℕ) → is_in (first_or b ns) (ns ++ b ∷ []) ≡ true
first_in b [] = in_first b []
first_in b (n ∷ ns) = in_first n (ns ++ b ∷ [])

next_by : (f g : ℕ → ℕ) (a b c n : ℕ) (ns : List ℕ) → IsChain f g a (n ∷ ns) b → is_in c (n ∷ ns) ≡ true → (n ≡ c) ⊎ (n ≡ c → ⊥)
    → (is_in c ns ≡ true → is_in (f c) (ns ++ b ∷ []) ≡ true) → is_in (f c) (ns ++ b ∷ []) ≡ true
next_by f g a b c n ns ch there (inl q) ih =
    ap (λ m. is_in m (ns ++ b ∷ [])) (ap f (sym q) ∙ next_first f g n b ns ch.1) ∙ first_in b ns
next_by f g a b c n ns ch there (inr q) ih = ih (in_rest c n ns there q)

pub next_in : (f g : ℕ → ℕ) (a b c : ℕ) (ns : List ℕ) → IsChain f g a ns b → is_in c ns ≡ true → is_in (f c) (ns ++ b ∷ []) ≡ true
next_in f g a b c [] ch there = absurd (grind (arith, common_steps))
next_in f g a b c (n ∷ ns) ch there =
    let ih : is_in c ns ≡ true → is_in (f c) (ns ++ b ∷ []) ≡ true = λ h. next_in f g n b c ns ch.1 h in
    in_more (f c) n (ns ++ b ∷ []) (next_by f g a b c n ns ch there (cases_eq n c) ih)

pub out_back : (c : ℕ) (us fs : List ℕ) → is_in c (us ++ fs) ≡ false → is_in c fs ≡ false
out_back c [] fs out = out
out_back c (u ∷ us) fs out = out_back c us fs (not_rest c u (us ++ fs) out)

pub in_front : (c : ℕ) (us fs : List ℕ) → is_in c us ≡ true → is_in c (us ++ fs) ≡ true
in_front c [] fs there = absurd (grind (arith, common_steps))
in_front c (u ∷ us) fs there = grind (arith, common_steps, in_front c us fs)

back_by : (c u : ℕ) (us fs : List ℕ) → is_in c (u ∷ us) ≡ true → AreDistinct (u ∷ us ++ fs) → (u ≡ c) ⊎ (u ≡ c → ⊥) → (is_in c us ≡ true → is_in c fs ≡ false) → is_in c fs ≡ false
back_by c u us fs there d (inl q) ih = ap (λ m. is_in m fs) (sym q) ∙ out_back u us fs d.0
back_by c u us fs there d (inr q) ih = ih (in_rest c u us there q)

in_end : (c b : ℕ) (ns : List ℕ) → is_in c ns ≡ false → (b ≡ c → ⊥) → is_in c (ns ++ b ∷ []) ≡ false
in_end c b [] out apart = grind (arith, common_steps)
in_end c b (n ∷ ns) out apart = grind (arith, common_steps, in_end c b ns)

-- one number leaves
left_by : (f g h k : ℕ → ℕ) (a b c n : ℕ) (ns : List ℕ) → IsChain f g a (n ∷ ns) b → is_in c (n ∷ ns) ≡ true → Joins f g h k (g c) (f c)
    → AreDistinct (a ∷ n ∷ ns) → is_in b (n ∷ ns) ≡ false → (n ≡ c) ⊎ (n ≡ c → ⊥)
    → (is_in c ns ≡ true → IsChain h k n (filter (is_not c) ns) b) → IsChain h k a (filter (is_not c) (n ∷ ns)) b
left_by f g h k a b c n ns ch there j d last (inl q) ih =
    let P : ℕ → Type 0 = λ m. IsChain f g m ns b in
    let Q : ℕ → Type 0 = λ m. Joins f g h k m (f c) in
    let R : List ℕ → Type 0 = λ ms. IsChain h k a ms b in
    let out : is_in c ns ≡ false = ap (λ m. is_in m ns) (sym q) ∙ d.1.0 in
    let at_a : Joins f g h k a (f c) = subst Q (ap g (sym q) ∙ ch.0.1) j in
    rw (test_true n c q) (subst R (sym (filter_absent c ns out)) (begun_at f g h k a b c ns (subst P q ch.1) at_a (not_rest a n ns d.0) d.1.1 (not_rest b n ns last)))
left_by f g h k a b c n ns ch there j d last (inr q) ih =
    let rest : is_in c ns ≡ true = in_rest c n ns there q in
    rw (test_false n c q) (
      (
        j.nexts a (flip (g c) a (in_both (g c) a (n ∷ ns) (previous_in f g n b c ns ch.1 rest) d.0)) ∙ ch.0.0,
        j.previouses n (flip (f c) n (in_both (f c) n (ns ++ b ∷ []) (next_in f g n b c ns ch.1 rest) (in_end n b ns d.1.0 (flip n b (not_first b n ns last))))) ∙ ch.0.1,
      ),
      ih rest,
    )

pub left : (f g h k : ℕ → ℕ) (a b c : ℕ) (ns : List ℕ) → IsChain f g a ns b → is_in c ns ≡ true → Joins f g h k (g c) (f c)
    → AreDistinct (a ∷ ns) → is_in b ns ≡ false → IsChain h k a (filter (is_not c) ns) b
left f g h k a b c [] ch there j d last = absurd (grind (arith, common_steps))
left f g h k a b c (n ∷ ns) ch there j d last =
    let ih : is_in c ns ≡ true → IsChain h k n (filter (is_not c) ns) b = λ rest. left f g h k n b c ns ch.1 rest j d.1 (not_rest b n ns last) in
    left_by f g h k a b c n ns ch there j d last (cases_eq n c) ih

first_previous : (f g : ℕ → ℕ) (a b : ℕ) (ns : List ℕ) → IsChain f g a ns b → g (first_or b ns) ≡ a
first_previous f g a b [] ch = ch.1
first_previous f g a b (n ∷ ns) ch = ch.0.1

-- what comes before the numbers behind
pub last_in : (f g : ℕ → ℕ) (a b : ℕ) (us fs : List ℕ) → IsChain f g a (us ++ fs) b → is_in (g (first_or b fs)) (a ∷ us) ≡ true
last_in f g a b [] fs ch = ap (λ m. is_in m (a ∷ [])) (first_previous f g a b fs ch) ∙ in_first a []
last_in f g a b (u ∷ us) fs ch = in_more (g (first_or b fs)) a (u ∷ us) (last_in f g u b us fs ch.1)

pub out_front : (c : ℕ) (us fs : List ℕ) → is_in c (us ++ fs) ≡ false → is_in c us ≡ false
out_front c [] fs out = refl
out_front c (u ∷ us) fs out = grind (arith, common_steps, out_front c us fs)

apart_out : (a c : ℕ) (ns : List ℕ) → is_in a ns ≡ false → (a ≡ c → ⊥) → is_in a (c ∷ ns) ≡ false
apart_out a c ns out apart = grind (arith, common_steps)

-- one number comes between those in front and those behind
pub come : (f g h k l m : ℕ → ℕ) (a b c : ℕ) (us fs : List ℕ) → IsChain f g a (us ++ fs) b
    → Joins f g h k c (first_or b fs) → Joins h k l m (g (first_or b fs)) c
    → AreDistinct (a ∷ us ++ fs) → is_in b (us ++ fs) ≡ false → is_in c (us ++ fs) ≡ false → (a ≡ c → ⊥) → (b ≡ c → ⊥)
    → IsChain l m a (us ++ c ∷ fs) b
come f g h k l m a b c [] fs ch i j d last out begin end =
    let P : ℕ → Type 0 = λ n. Joins f g h k c n in
    let Q : ℕ → Type 0 = λ n. Joins h k l m n c in
    let to : Joins f g h k c (f a) = subst P (sym (next_first f g a b fs ch)) i in
    let from : Joins h k l m a c = subst Q (first_previous f g a b fs ch) j in (
      (from.next_is, from.previous_is),
      kept h k l m a c c b fs (begun_at f g h k c b a fs ch to out d.1 last) from (apart_out a c fs d.0 begin) out end,
    )
come f g h k l m a b c (u ∷ us) fs ch i j d last out begin end =
    let there : is_in (g (first_or b fs)) (u ∷ us) ≡ true = last_in f g u b us fs ch.1 in
    let apart : g (first_or b fs) ≡ a → ⊥ = in_both (g (first_or b fs)) a (u ∷ us) there (out_front a (u ∷ us) fs d.0) in
    let behind : is_in u (fs ++ b ∷ []) ≡ false = in_end u b fs (out_back u us fs d.1.0) (flip u b (not_first b u (us ++ fs) last)) in
    let other : u ≡ first_or b fs → ⊥ = flip (first_or b fs) u (in_both (first_or b fs) u (fs ++ b ∷ []) (first_in b fs) behind) in
    let self : u ≡ c → ⊥ = not_first c u (us ++ fs) out in (
      (j.nexts a (flip (g (first_or b fs)) a apart) ∙ i.nexts a begin ∙ ch.0.0, j.previouses u self ∙ i.previouses u other ∙ ch.0.1),
      come f g h k l m u b c us fs ch.1 i j d.1 (not_rest b u (us ++ fs) last) (not_rest c u (us ++ fs) out) self end,
    )

pub filter_front : (c : ℕ) (us fs : List ℕ) → is_in c fs ≡ false → filter (is_not c) (us ++ fs) ≡ filter (is_not c) us ++ fs
filter_front c [] fs out = filter_absent c fs out
filter_front c (u ∷ us) fs out = grind (arith, common_steps, filter_front c us fs out)

pub back_apart : (c : ℕ) (us fs : List ℕ) → is_in c us ≡ true → AreDistinct (us ++ fs) → is_in c fs ≡ false
back_apart c [] fs there d = absurd (grind (arith, common_steps))
back_apart c (u ∷ us) fs there d = back_by c u us fs there d (cases_eq u c) (λ rest. back_apart c us fs rest d.1)

-- a number of the front moves behind the others of the front
pub moved : (f g f1 g1 f2 g2 f3 g3 : ℕ → ℕ) (end c : ℕ) (us fs : List ℕ) → IsChain f g end (us ++ fs) end
    → AreDistinct (us ++ fs) → is_in end (us ++ fs) ≡ false → is_in c us ≡ true
    → Joins f g f1 g1 (g c) (f c) → Joins f1 g1 f2 g2 c (first_or end fs) → Joins f2 g2 f3 g3 (g1 (first_or end fs)) c
    → IsChain f3 g3 end (filter (is_not c) us ++ c ∷ fs) end
moved f g f1 g1 f2 g2 f3 g3 end c us fs ch d out there j1 j2 j3 =
    let P : List ℕ → Type 0 = λ ms. IsChain f1 g1 end ms end in
    let Q : List ℕ → Type 0 = λ ms. AreDistinct ms in
    let e : filter (is_not c) (us ++ fs) ≡ filter (is_not c) us ++ fs = filter_front c us fs (back_apart c us fs there d) in
    let in_all : is_in c (us ++ fs) ≡ true = in_front c us fs there in
    let gone : is_in c (filter (is_not c) us ++ fs) ≡ false = ap (is_in c) (sym e) ∙ is_in_filter_same c (us ++ fs) in
    let free : is_in end (filter (is_not c) us ++ fs) ≡ false = ap (is_in end) (sym e) ∙ is_in_filter_false c end (us ++ fs) out in
    let once : AreDistinct (filter (is_not c) us ++ fs) = subst Q e (AreDistinct-filter c (us ++ fs) d) in
    let apart : end ≡ c → ⊥ = flip c end (in_both c end (us ++ fs) in_all out) in
    come f1 g1 f2 g2 f3 g3 end end c (filter (is_not c) us) fs
    (subst P e (left f g f1 g1 end end c (us ++ fs) ch in_all j1 (out, d) out))
    j2 j3 (free, once) free gone apart apart

-- the number behind one of the chain
pub next_at : (f g : ℕ → ℕ) (a b n : ℕ) (us fs : List ℕ) → IsChain f g a (us ++ n ∷ fs) b → f n ≡ first_or b fs
next_at f g a b n [] fs ch = next_first f g n b fs ch.1
next_at f g a b n (u ∷ us) fs ch = next_at f g u b n us fs ch.1

pub next_get : (f g : ℕ → ℕ) (a b i : ℕ) (ns : List ℕ) → IsChain f g a ns b → suc i < length ns → f (get_or ns i 0) ≡ get_or ns (suc i) 0
next_get f g a b i [] ch lt = absurd (omega arith)
next_get f g a b i (n ∷ []) ch lt = absurd (omega arith)
next_get f g a b zero (n ∷ m ∷ ms) ch lt = ch.1.0.0
next_get f g a b (suc i) (n ∷ m ∷ ms) ch lt = next_get f g n b i (m ∷ ms) ch.1 (omega arith)

pub first_get : (f g : ℕ → ℕ) (a b : ℕ) (ns : List ℕ) → IsChain f g a ns b → 0 < length ns → f a ≡ get_or ns 0 0
first_get f g a b [] ch lt = absurd (omega arith)
first_get f g a b (n ∷ ns) ch lt = ch.0.0
