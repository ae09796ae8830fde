-- What a life begins with, what it is given to keep, and what it asks of the bytes that it keeps.
use Rattle.std.specs.Prelude.{◌≡◌, ◌*◌, ◌==◌, ◌&&◌, ℕ, Bool, true, min, nat_le, List, [], ◌∷◌, ◌++◌, codes}
use Rattle.pp_world.specs.declared.happening.Happening.TheVariants.{Woke}
use Rattle.pp_world.specs.Disk.{Bytes}
use Rattle.pp_world.specs.Files.{Files}
use Rattle.pp_world.specs.Log.{Log}
use Rattle.pp_text.specs.Fields.{Field}
use Rattle.pp_valid.specs.declared.version.Version.{Version}
use Rattle.pp_entry.specs.Entries.{Row}
use Rattle.pp_entry.specs.Texts.{chunks_of}
use Rattle.pp_gate.specs.Files.{Sent}
use Rattle.pp_gate.specs.Seal.{IsFront}
use Rattle.pp_store.specs.Changes.{entry_with}

-- a life has begun, and nothing has happened in it
abbrev pub HasWoken : Log → Type 0
HasWoken log = (before : Log) × (files : Files) × (log ≡ before ++ Woke files ∷ [])

-- any byte may have been sent
abbrev pub any_byte : Sent
any_byte block offset byte = true

abbrev pub given_fields : List Field
given_fields =
    (codes "etag", codes "\"x\"") ∷ (codes "date", codes "Sun, 06 Nov 1994 08:49:37 GMT") ∷ (codes "cache-control", codes "max-age=60") ∷ []

abbrev pub given_version : ℕ → Version
given_version n = record { tag = codes "\"x\""; length = n }

-- the entry of a key with a body of n bytes
abbrev pub given_row : List ℕ → ℕ → Row
given_row key n = entry_with key (given_version n) given_fields (record { request = 784111776; response = 784111777; initial = 0; may_guess = true })

-- so many bytes are none of a body of n bytes, chunks of it that are whole, or all of it
abbrev pub is_front_of : ℕ → ℕ → Bool
is_front_of n count = nat_le count n && min n (4096 * chunks_of count) == count

-- they may be the first of the body of any entry
abbrev pub IsAnyFront : ℕ → Bytes → Type 0
IsAnyFront n front = (block : Bytes) → IsFront any_byte block n front
