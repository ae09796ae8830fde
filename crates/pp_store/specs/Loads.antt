-- What a load of a chunk gives.
use Rattle.std.specs.Prelude.{◌≡◌, ◌<◌, ⊤, ℕ, ◌+◌, ◌-◌, ◌*◌, true, min, [], ◌∷◌, length, take, drop, Option, Result, Ok, Err, slice_index}
use Rattle.pp_world.specs.declared.happening.Happening.TheVariants.{Unread}
use Rattle.pp_world.specs.Log.{Log, Rises, Told}
use Rattle.pp_world.specs.Disk.{Bytes, Stored, Stands, bytes_in}
use Rattle.pp_entry.specs.Texts.{body_at}
use Rattle.pp_gate.specs.Gate.{HoldsJust}
use Rattle.pp_store.specs.declared.faults.LoadFault.{LoadFault}
use Rattle.pp_store.specs.declared.faults.LoadFault.TheVariants.{DiskFault, Short}
use Rattle.pp_store.specs.Kept.{Kept, name_at, block_of}
use Rattle.pp_gate.specs.Files.{Sent}

-- how many bytes a chunk of a body has
abbrev pub chunk_len : ℕ → ℕ → ℕ
chunk_len n index = min 4096 (n - 4096 * index)

abbrev pub load_happenings : Bytes → Result ℕ LoadFault → Log
load_happenings name (Ok count) = []
load_happenings name (Err DiskFault) = Unread name ∷ []
load_happenings name (Err (Short wanted got)) = []

-- so many bytes of the file that stands under a name, from an offset on, or fewer where the file ends
abbrev pub GivesRead : Bytes → ℕ → ℕ → Bytes → Result ℕ LoadFault → Log → Type 0
GivesRead name at len out (Ok count) log = (file : Option Stored) → Stands name log file → take count out ≡ take len (drop at (bytes_in file))
GivesRead name at len out (Err DiskFault) log = ⊤
GivesRead name at len out (Err (Short wanted got)) log = (file : Option Stored) → Stands name log file → length (take len (drop at (bytes_in file))) ≡ got

abbrev pub ReadCause : Option Log → ℕ → ℕ → ℕ → Result ℕ LoadFault → Type 0
ReadCause log before now len (Ok count) = count ≡ len
ReadCause log before now len (Err DiskFault) = Rises log before now
ReadCause log before now len (Err (Short wanted got)) = (wanted ≡ len) × (got < wanted)

-- the bytes of the chunk in the file that stands under the entry's name
abbrev pub GivesChunk : Kept → ℕ → Bytes → Result ℕ LoadFault → Log → Type 0
GivesChunk row index out (Ok count) log =
    (file : Bytes) → HoldsJust (name_at row) file log
    → take count out ≡ take count (drop (body_at row.entry.version.length + 4096 * index) file)
GivesChunk row index out (Err fault) log = ⊤

-- and each of them was sent
abbrev pub GivesSent : Sent → Kept → ℕ → Bytes → Result ℕ LoadFault → Type 0
GivesSent sent row index out (Ok count) =
    (offset : ℕ) → offset < count → sent (block_of row.entry) (4096 * index + offset) (slice_index out offset) ≡ true
GivesSent sent row index out (Err fault) = ⊤

-- the disk fails only where its count rose; a read gives fewer bytes than the chunk has only where no log is told
abbrev pub LoadCause : Option Log → ℕ → ℕ → ℕ → Result ℕ LoadFault → Type 0
LoadCause log before now len (Ok count) = count ≡ len
LoadCause log before now len (Err DiskFault) = Rises log before now
LoadCause log before now len (Err (Short wanted got)) = (wanted ≡ len) × (got < wanted) × Told log (λ l. ⊥)
