-- What the origin has.
use Rattle.std.specs.Prelude.{ℕ, zero, suc, ◌+◌, ◌*◌, ◌/◌, ◌%◌, List, [], ◌∷◌, ◌++◌, slice_index, codes, decimal}
use Rattle.pp_memworld.specs.declared.script.Page.{Page}
use Rattle.pp_demo.specs.Generator.{state_behind, value_in}

-- the offsets of the last bytes of so many pages, each by the next value
unfoldable pub last_offsets : ℕ → ℕ → List ℕ
last_offsets zero state = []
last_offsets (suc n) state = last_offsets n state ++ value_in (state_behind (suc n) state) % 100000 ∷ []

abbrev pub byte_at : ℕ → ℕ → ℕ
byte_at number offset = (31 * number + 7 * offset + offset / 4096) % 256

-- so many bytes
unfoldable pub bytes_up_to : ℕ → ℕ → List ℕ
bytes_up_to number zero = []
bytes_up_to number (suc n) = bytes_up_to number n ++ byte_at number n ∷ []

abbrev pub page_of : ℕ → ℕ → Page
page_of number last = record {
  host = codes "demo";
  path = codes "/" ++ decimal number;
  tag = codes "\"o" ++ decimal number ++ codes "\"";
  body = bytes_up_to number (last + 1);
}

-- so many pages, by their last offsets
unfoldable pub pages_up_to : ℕ → List ℕ → List Page
pages_up_to zero last = []
pages_up_to (suc n) last = pages_up_to n last ++ page_of n (slice_index last n) ∷ []
