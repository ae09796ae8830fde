-- The chunk that has to go where room is made.
use Rattle.std.specs.Prelude.{ℕ, cond, nat_le, List, length, Option, None}
use Rattle.std.specs.Option.{option_map}
use Rattle.pp_pool.specs.Chunks.{Used, oldest_in, place_of}

-- ours: the least recently used chunk that is not pinned, where more than the floor are used
abbrev pub victim_in : List (ℕ × ℕ) → ℕ → List Used → Option (ℕ × ℕ)
victim_in pins floor us = cond (nat_le (length us) floor) None (option_map place_of (oldest_in pins us))
