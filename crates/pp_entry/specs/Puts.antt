-- A text that is written behind another, as far as there is room.
use Rattle.std.specs.Prelude.{◌≡◌, ◌<◌, ◌+◌, ℕ, true, false, List, ◌++◌, length, Result, Ok, Err}
use Rattle.pp_text.specs.Fields.{Field}
use Rattle.pp_entry.specs.declared.lines.TooLong.{TooLong}
use Rattle.pp_entry.specs.Texts.{fits}

-- the text stands behind the old one, or both together are longer than a head block
abbrev pub IsPut : {A : Type 0} → List ℕ → List ℕ → List ℕ → Result A TooLong → Type 0
IsPut text old new (Ok done) = new ≡ old ++ text
IsPut text old new (Err fault) = 8192 < length old + length text

-- the text of an entry with these kept fields stands there, or does not fit
abbrev pub IsHeadPut : {A : Type 0} → List Field → List ℕ → List ℕ → Result A TooLong → Type 0
IsHeadPut kept text new (Ok done) = (new ≡ text) × (fits kept text ≡ true)
IsHeadPut kept text new (Err fault) = fits kept text ≡ false
