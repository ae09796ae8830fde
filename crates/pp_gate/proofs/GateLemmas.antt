-- The leading open gates, and what they make of a file.
use Rattle.std.proofs.Common.{◌≡◌, ◌≢◌, ◌⊎◌, ⊎_elim, ℕ, zero, suc, ◌+◌, ◌*◌, ◌<◌, ◌≤◌, Bool, true, false, [], ◌∷◌, length, take, drop, get_or, refl, sym, ◌∙◌, ap, subst, arith, Some}
use Rattle.std.specs.Prelude.{◌==◌, min, cond}
use Rattle.std.specs.List.{prefix_len}
use Rattle.std.proofs.lemmas.List.{get_or-take, get_or-drop, length-take-le}
use Rattle.std.proofs.lemmas.Bool.Decides.{nat_tests}
use Rattle.pp_world.specs.Disk.{Bytes}
use Rattle.pp_entry.specs.Gates.{leading_open}
use Rattle.pp_entry.specs.Texts.{body_at, chunks_of}
use Rattle.pp_gate.specs.Files.{open_gates, extent_in, gate, body}
use Rattle.pp_gate.specs.Seal.{IsHonest}

-- one gate more
leading-cons : (b : ℕ) (gates : Bytes) → leading_open (b ∷ gates) ≡ cond (b == 1) (suc (leading_open gates)) 0
leading-cons b gates = by (b == 1) refl
  where
    by : (t : Bool) → (b == 1) ≡ t → leading_open (b ∷ gates) ≡ cond t (suc (leading_open gates)) 0
    by true is =
        let step : 1 + prefix_len (λ x. x == 1) gates ≡ suc (prefix_len (λ x. x == 1) gates) = omega arith in
        rw is (ap (λ (k : ℕ). length (take k (b ∷ gates))) step)
    by false is = rw is refl

-- gates that are open up to here lead at least so far
open_front : (gs : Bytes) (k : ℕ) → ((i : ℕ) → i < k → get_or gs i 0 ≡ 1) → k ≤ leading_open gs
open_front gs zero all = omega arith
open_front [] (suc k) all = absurd (omega (arith, all 0 (omega arith)))
open_front (b ∷ gs) (suc k) all =
    let first : b ≡ 1 = all 0 (omega arith) in
    let rest : k ≤ leading_open gs = open_front gs k (λ i lt. all (suc i) (omega arith)) in
    subst (λ (n : ℕ). suc k ≤ n) (sym (leading-cons b gs ∙ ap (λ (x : ℕ). cond (x == 1) (suc (leading_open gs)) 0) first)) (omega (arith, rest))

-- and a gate that is not open ends them
closed_ends : (gs : Bytes) (k : ℕ) → get_or gs k 0 ≢ 1 → leading_open gs ≤ k
closed_ends [] k shut = omega arith
closed_ends (b ∷ gs) k shut = subst (λ (n : ℕ). n ≤ k) (sym (leading-cons b gs)) (by (b == 1) k (is_one b) (λ j. closed_ends gs j) shut)
  where
    is_one : (b : ℕ) → (b == 1) ≡ true → b ≡ 1
    is_one b is = grind (arith, nat_tests)

    by : (t : Bool) (k : ℕ) → (t ≡ true → b ≡ 1) → ((j : ℕ) → get_or gs j 0 ≢ 1 → leading_open gs ≤ j) → get_or (b ∷ gs) k 0 ≢ 1 → cond t (suc (leading_open gs)) 0 ≤ k
    by true zero one ends shut = absurd (shut (one refl))
    by true (suc k) one ends shut = let rest : leading_open gs ≤ k = ends k shut in omega arith
    by false k one ends shut = omega arith

none_more : (gs : Bytes) → leading_open gs ≤ length gs
none_more [] = omega arith
none_more (b ∷ gs) = subst (λ (n : ℕ). n ≤ length (b ∷ gs)) (sym (leading-cons b gs)) (by (b == 1) (none_more gs))
  where
    by : (t : Bool) → leading_open gs ≤ length gs → cond t (suc (leading_open gs)) 0 ≤ length (b ∷ gs)
    by true le = omega arith
    by false le = omega arith

nth_gate : (n : ℕ) (c : Bytes) (i : ℕ) → i < chunks_of n → get_or (take (chunks_of n) (drop 8192 c)) i 0 ≡ gate c i
unfolding gate
nth_gate n c i lt = get_or-take (chunks_of n) (drop 8192 c) i 0 lt ∙ get_or-drop 8192 c i 0

pub opens_at_least : (n k : ℕ) (c : Bytes) → k ≤ chunks_of n → ((i : ℕ) → i < k → gate c i ≡ 1) → k ≤ open_gates n c
unfolding open_gates
opens_at_least n k c le all = open_front (take (chunks_of n) (drop 8192 c)) k (λ i lt. nth_gate n c i (omega (arith, lt, le)) ∙ all i lt)

pub opens_at_most : (n k : ℕ) (c : Bytes) → k ≤ chunks_of n → (k < chunks_of n → gate c k ≢ 1) → open_gates n c ≤ k
unfolding open_gates
opens_at_most n k c le next = ⊎_elim
    (λ (lt : k < chunks_of n). closed_ends (take (chunks_of n) (drop 8192 c)) k (λ is. next lt (sym (nth_gate n c k lt) ∙ is)))
    (λ (all : chunks_of n ≤ k). omega (arith, all, none_more (take (chunks_of n) (drop 8192 c)), short (drop 8192 c)))
    (split k (chunks_of n))
  where
    split : (a b : ℕ) → (a < b) ⊎ (b ≤ a)
    split a b = grind arith

    short : (gs : Bytes) → length (take (chunks_of n) gs) ≤ chunks_of n
    short gs = grind (arith, Rattle.std.proofs.lemmas.List.length-take)

-- a file whose head is as it was, whose gates are open up to `low` and that at `high` is not, and whose body up to there is true
pub honest_next : (P : Bytes → ℕ → ℕ → Bool) (block : Bytes) (n low high : ℕ) (c : Bytes) → low ≤ high → high ≤ chunks_of n → take 8192 c ≡ block
    → ((i : ℕ) → i < low → gate c i ≡ 1) → (high < chunks_of n → gate c high ≢ 1)
    → body_at n + min n (4096 * high) ≤ length c
    → length c ≤ body_at n + n
    → ((o : ℕ) → o < min n (4096 * high) → P block o (body n c o) ≡ true)
    → IsHonest P block n (min n (4096 * low)) (Some c)
unfolding extent_in
honest_next P block n low high c order within head is_open next long short holds =
    let least : low ≤ open_gates n c = opens_at_least n low c (omega (arith, order, within)) is_open in
    let most : open_gates n c ≤ high = opens_at_most n high c within next in
    record {
      bytes = c;
      is = refl;
      entry = record { head = head; long = omega (arith, most, long); short = short };
      extent = omega (arith, least);
      holds = λ o lt. holds o (omega (arith, lt, most));
    }

pub honest_between : (P : Bytes → ℕ → ℕ → Bool) (block : Bytes) (n low high : ℕ) (c : Bytes) → low ≤ high → high ≤ chunks_of n → take 8192 c ≡ block
    → ((i : ℕ) → i < low → gate c i ≡ 1) → ((i : ℕ) → high ≤ i → i < chunks_of n → gate c i ≢ 1)
    → body_at n + min n (4096 * high) ≤ length c
    → length c ≤ body_at n + n
    → ((o : ℕ) → o < min n (4096 * high) → P block o (body n c o) ≡ true)
    → IsHonest P block n (min n (4096 * low)) (Some c)
honest_between P block n low high c order within head is_open is_closed long short holds = honest_next P block n low high c order within head is_open (λ lt. is_closed high (omega arith) lt) long short holds
