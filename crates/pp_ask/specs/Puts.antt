-- A text that is written behind another, as far as there is room.
use Rattle.std.specs.Prelude.{◌≡◌, ◌<◌, ◌+◌, ℕ, List, ◌++◌, length, Result, Ok, Err}
use Rattle.pp_ask.specs.declared.lines.TooLong.{TooLong}

-- the text stands behind the old one, or both together are longer than an ask may be
abbrev pub IsPut : {A : Type 0} → List ℕ → List ℕ → List ℕ → Result A TooLong → Type 0
IsPut text old new (Ok done) = new ≡ old ++ text
IsPut text old new (Err fault) = 16384 < length old + length text
