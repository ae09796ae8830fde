-- The hexadecimal digits of numbers that have at most four.
use Rattle.std.proofs.Common.{◌≡◌, ℕ, suc, ◌<◌, ◌≤◌, ◌/◌, ◌%◌, false, cond, List, [], ◌∷◌, arith, ap, sym, ◌∙◌, eq-eqb}
use Rattle.std.proofs.lemmas.Bool.{ne_eqb}
use Rattle.std.specs.Fmt.{digits, digits_onto, digit_glyph}

abbrev glyph : ℕ → ℕ
glyph n = digit_glyph false n

last_digit : (k n : ℕ) (acc : List ℕ) → n < 16 → digits_onto (suc k) 16 false n acc ≡ glyph n ∷ acc
last_digit k n acc small =
    ap (λ t. cond t (glyph (n % 16) ∷ acc) (digits_onto k 16 false (n / 16) (glyph (n % 16) ∷ acc))) (eq-eqb (n / 16) 0 (omega arith))
    ∙ ap (λ m. glyph m ∷ acc) (let e : n % 16 ≡ n = omega arith in e)

more_digits : (k n : ℕ) (acc : List ℕ) → 16 ≤ n → digits_onto (suc k) 16 false n acc ≡ digits_onto k 16 false (n / 16) (glyph (n % 16) ∷ acc)
more_digits k n acc large = ap (λ t. cond t (glyph (n % 16) ∷ acc) (digits_onto k 16 false (n / 16) (glyph (n % 16) ∷ acc))) (ne_eqb (n / 16) 0 (λ e. omega arith))

pub one_digit : (n : ℕ) → n < 16 → glyph (n % 16) ∷ [] ≡ digits 16 false n
unfolding digits
one_digit n small = ap (λ m. glyph m ∷ []) (let e : n % 16 ≡ n = omega arith in e) ∙ sym (last_digit 63 n [] small)

pub two_digits : (n : ℕ) → 16 ≤ n → n < 256 → glyph (n / 16 % 16) ∷ glyph (n % 16) ∷ [] ≡ digits 16 false n
unfolding digits
two_digits n large small =
    ap (λ m. glyph m ∷ glyph (n % 16) ∷ []) (let e : n / 16 % 16 ≡ n / 16 = omega arith in e)
    ∙ sym (more_digits 63 n [] large ∙ last_digit 62 (n / 16) (glyph (n % 16) ∷ []) (omega arith))

pub three_digits : (n : ℕ) → 256 ≤ n → n < 4096 → glyph (n / 256 % 16) ∷ glyph (n / 16 % 16) ∷ glyph (n % 16) ∷ [] ≡ digits 16 false n
unfolding digits
three_digits n large small =
    ap (λ m. glyph m ∷ glyph (n / 16 % 16) ∷ glyph (n % 16) ∷ []) (let e : n / 256 % 16 ≡ n / 16 / 16 = omega arith in e)
    ∙ sym (more_digits 63 n [] (omega arith) ∙ more_digits 62 (n / 16) (glyph (n % 16) ∷ []) (omega arith)
    ∙ last_digit 61 (n / 16 / 16) (glyph (n / 16 % 16) ∷ glyph (n % 16) ∷ []) (omega arith))

pub four_digits : (n : ℕ) → 4096 ≤ n → n < 65536 → glyph (n / 4096) ∷ glyph (n / 256 % 16) ∷ glyph (n / 16 % 16) ∷ glyph (n % 16) ∷ [] ≡ digits 16 false n
unfolding digits
four_digits n large small =
    ap (λ m. glyph m ∷ glyph (n / 256 % 16) ∷ glyph (n / 16 % 16) ∷ glyph (n % 16) ∷ []) (let e : n / 4096 ≡ n / 16 / 16 / 16 = omega arith in e)
    ∙ ap (λ m. glyph (n / 16 / 16 / 16) ∷ glyph m ∷ glyph (n / 16 % 16) ∷ glyph (n % 16) ∷ []) (let e : n / 256 % 16 ≡ n / 16 / 16 % 16 = omega arith in e)
    ∙ sym (more_digits 63 n [] (omega arith) ∙ more_digits 62 (n / 16) (glyph (n % 16) ∷ []) (omega arith)
    ∙ more_digits 61 (n / 16 / 16) (glyph (n / 16 % 16) ∷ glyph (n % 16) ∷ []) (omega arith)
    ∙ last_digit 60 (n / 16 / 16 / 16) (glyph (n / 16 / 16 % 16) ∷ glyph (n / 16 % 16) ∷ glyph (n % 16) ∷ []) (omega arith))
