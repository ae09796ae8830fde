-- Sixteen hexadecimal digits fit 64 bits.
use Rattle.std.proofs.Common.{◌≡◌, ℕ, zero, suc, ◌+◌, ◌-◌, ◌*◌, ◌<◌, ◌≤◌, ◌^◌, arith, ap, ◌∙◌, refl}
use Rattle.std.proofs.Math.Nat.{pow-suc}

pow-grows : (more k j : ℕ) → j ≡ k + more → 16 ^ k ≤ 16 ^ j
pow-grows zero k j e = let same : 16 ^ j ≡ 16 ^ k = ap (λ n. 16 ^ n) (let e' : j ≡ k = omega (arith, e) in e') in omega arith
pow-grows (suc more) k j e =
    let ih : 16 ^ k ≤ 16 ^ (k + more) = pow-grows more k (k + more) refl in
    let is_next : j ≡ suc (k + more) = omega (arith, e) in
    let next : 16 ^ j ≡ 16 ^ (k + more) * 16 = ap (λ n. 16 ^ n) is_next ∙ pow-suc 16 (k + more) in
    omega arith

-- fewer than sixteen digits: sixteen times their value and one more digit fit
pub size_fits : (digits size digit : ℕ) → digits < 16 → size < 16 ^ digits → digit < 16 → size * 16 + digit < 2 ^ 64
size_fits digits size digit few below small =
    let bound : 16 ^ digits ≤ 16 ^ 15 = pow-grows (15 - digits) digits 15 (omega arith) in
    omega arith

-- with one more digit
pub size_below : (digits size digit : ℕ) → size < 16 ^ digits → digit < 16 → size * 16 + digit < 16 ^ (digits + 1)
size_below digits size digit below small =
    let next : 16 ^ (digits + 1) ≡ 16 ^ digits * 16 = ap (λ n. 16 ^ n) (let e : digits + 1 ≡ suc digits = omega arith in e) ∙ pow-suc 16 digits in
    omega arith
