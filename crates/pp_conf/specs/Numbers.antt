-- Decimal numbers of settings.
use Rattle.std.specs.Prelude.{ℕ, Bool, ◌==◌, ◌&&◌, nat_le, nat_lt, List, length, slice_index, Option, option_and_then, Some, None, cond}
use Rattle.pp_text.specs.Numbers.{number_of}

-- more digits than one, of which the first is 0
abbrev pub is_padded : List ℕ → Bool
is_padded text = nat_lt 1 (length text) && (slice_index text 0 == 48)

-- a decimal number from low to high, without sign or leading zero
abbrev pub number_in : ℕ → ℕ → List ℕ → Option ℕ
number_in low high text =
    cond (is_padded text) None (option_and_then (λ n. cond (nat_le low n && nat_le n high) (Some n) None) (number_of text))
