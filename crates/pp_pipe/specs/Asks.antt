-- The asks of a connection that are not answered whole, in their order (RFC 2616, section 8.1.2.2).
use Rattle.std.specs.Prelude.{ℕ, ◌-◌, Bool, false, ◌==◌, ◌||◌, nat_lt, min, if◌then◌else◌, List, [], ◌∷◌, length, sum_by, Option, Some, None}
use Rattle.pp_pipe.specs.declared.asks.Ask.{Ask}

-- ours: how many there may be, and how many bytes may wait to be written
abbrev pub max_asks : ℕ
max_asks = 8

abbrev pub out_room : ℕ
out_room = 131072

-- bytes of them that are still to be written
abbrev pub total : List Ask → ℕ
total asks = sum_by (λ (ask : Ask). ask.text_left) asks

abbrev pub fresh : List ℕ → Bool → Ask
fresh text head_request = record { head_request = head_request; is_begun = false; text_left = length text }

-- its text was taken: it may be answered
abbrev pub is_outstanding : Ask → Bool
is_outstanding ask = ask.text_left == 0

-- "A server MUST send its responses to those requests in the same order that the requests were received":
-- whether the response that comes next is one to HEAD; None where the ask that is next was not taken
abbrev pub awaited : List Ask → Option Bool
awaited [] = None
awaited (ask ∷ asks) = if is_outstanding ask then Some ask.head_request else None

-- so many bytes were taken of it, as far as it has them
abbrev pub ask_taken : ℕ → Ask → Ask
ask_taken n ask = record {
  head_request = ask.head_request;
  is_begun = ask.is_begun || nat_lt 0 (min n ask.text_left);
  text_left = ask.text_left - n;
}

-- so many bytes were taken of them all, those of the first before those of the next
abbrev pub all_taken : ℕ → List Ask → List Ask
all_taken n [] = []
all_taken n (ask ∷ asks) = ask_taken n ask ∷ all_taken (n - ask.text_left) asks
