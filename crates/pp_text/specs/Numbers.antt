-- Numbers as text (RFC 2616, sections 2.2 and 3.6.1).
use Rattle.std.specs.Prelude.{ℕ, ◌+◌, ◌*◌, ◌^◌, cond, ◌&&◌, not, nat_lt, List, fold, Option, Some, None}
use Rattle.std.specs.List.{list_all}
use Rattle.std.specs.Char.{digit_value, is_digit}
use Rattle.pp_text.specs.Bytes.{is_empty}

-- the digits' value, the first digit counting most
abbrev pub value_of : ℕ → List ℕ → ℕ
value_of base text = fold (λ n b. n * base + digit_value b) 0 text

-- ours: a number has at least one digit, and is at most what 64 bits hold
abbrev pub number_in : ℕ → List ℕ → Option ℕ
number_in base text =
    let n = value_of base text in
    cond (not (is_empty text) && list_all (λ b. is_digit b base) text && nat_lt n (2 ^ 64)) (Some n) None

-- 1*DIGIT
abbrev pub number_of : List ℕ → Option ℕ
number_of text = number_in 10 text

-- HEX = "A" | "B" | "C" | "D" | "E" | "F" | "a" | "b" | "c" | "d" | "e" | "f" | DIGIT, and 1*HEX
abbrev pub hex_number_of : List ℕ → Option ℕ
hex_number_of text = number_in 16 text
