-- A number is read digit by digit, with an early answer where a byte is no digit or 64 bits are passed.
use Rattle.std.proofs.Common.{◌≡◌, ℕ, ◌+◌, ◌*◌, ◌^◌, ◌<◌, ◌≤◌, Bool, false, cond, ◌&&◌, List, [], ◌∷◌, length, drop, get_or, Option, Some, None, nat_lt, arith, lit<, add-one, drop-cons}
use Rattle.std.specs.Prelude.{fold}
use Rattle.std.specs.List.{list_all}
use Rattle.std.specs.Char.{digit_value, is_digit}
use Rattle.std.proofs.lemmas.Bool.Decides.{nat_tests}
use Rattle.pp_text.specs.Bytes.{is_empty}
use Rattle.pp_text.specs.Numbers.{number_in}

-- the number before the text, with the text's digits after it
abbrev pub next_number : ℕ → ℕ → ℕ → ℕ
next_number base n b = n * base + digit_value b

abbrev pub read_from : ℕ → ℕ → List ℕ → Option ℕ
read_from base n [] = Some n
read_from base n (b ∷ text) =
    cond (is_digit b base && nat_lt (next_number base n b) (2 ^ 64)) (read_from base (next_number base n b) text) None

abbrev pub value_from : ℕ → ℕ → List ℕ → ℕ
value_from base n text = fold (λ n b. n * base + digit_value b) n text

le_times : (n base : ℕ) → 1 ≤ base → n ≤ n * base
le_times n base h = grind arith

-- more digits never make less
grows : (base n : ℕ) → (text : List ℕ) → 1 ≤ base → n ≤ value_from base n text
grows base n [] h = omega arith
grows base n (b ∷ text) h = omega (arith, le_times n base h, grows base (next_number base n b) text h)

read_step : (is all : Bool) (m v : ℕ) (rest : Option ℕ) → m ≤ v
    → (m < 2 ^ 64 → rest ≡ cond (all && nat_lt v (2 ^ 64)) (Some v) None)
    → cond (is && nat_lt m (2 ^ 64)) rest None ≡ cond (is && all && nat_lt v (2 ^ 64)) (Some v) None
read_step is all m v rest h k = grind (arith, nat_tests)

read_from-is : (base n : ℕ) (text : List ℕ) → 1 ≤ base → n < 2 ^ 64
    → read_from base n text
    ≡ cond (list_all (λ b. is_digit b base) text && nat_lt (value_from base n text) (2 ^ 64)) (Some (value_from base n text)) None
read_from-is base n [] h k = grind (arith, nat_tests)
read_from-is base n (b ∷ text) h k =
    read_step _ _ _ _ _ (grows base (next_number base n b) text h) (λ k'. read_from-is base (next_number base n b) text h k')

pub number_in-is : (base : ℕ) (text : List ℕ) → 1 ≤ base → is_empty text ≡ false → number_in base text ≡ read_from base 0 text
number_in-is base text h e = rw (e, read_from-is base 0 text h (lit< tt))

pub read_from-drop : (base n : ℕ) (text : List ℕ) (i : ℕ) → i < length text
    → read_from base n (drop i text)
    ≡ cond (is_digit (get_or text i 0) base && nat_lt (next_number base n (get_or text i 0)) (2 ^ 64)) (read_from base (next_number base n (get_or text i 0)) (drop (i + 1) text)) None
read_from-drop base n text i h = rw (add-one, drop-cons text i 0)
