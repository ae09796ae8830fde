-- The key of an exchange, and the row of a key that is not known any more (RFC 2616, sections 10.3.5 and 13.10).
use Rattle.std.specs.Prelude.{ℕ, List, Option, Some, None, option_map}
use Rattle.pp_cache.specs.Memory.{Memory, retired_at}
use Rattle.pp_flow.specs.Changes.{Exchanges, entry_of}

abbrev pub key_of : ℕ → Exchanges → Option (List ℕ)
key_of number flow = option_map (λ e. e.key.items) (entry_of number flow)

-- the row of the key is not known any more
abbrev pub cleared : Option (List ℕ) → Memory → Memory
cleared None memory = memory
cleared (Some key) memory = retired_at key memory
