-- What looks at the file of one name tell.
use Rattle.std.specs.Prelude.{◌≡◌, ⊤, ℕ, Bool, true, false, [], ◌∷◌, ◌++◌, if◌then◌else◌, length, take, Option, Some, None, Result, Ok, Err, option_map}
use Rattle.pp_world.specs.declared.disk.DiskFault.{DiskFault}
use Rattle.pp_world.specs.declared.happening.Happening.TheVariants.{Unread}
use Rattle.pp_world.specs.Log.{Log}
use Rattle.pp_world.specs.Disk.{Bytes, Stands, at_rest}
use Rattle.pp_entry.specs.Entries.{Row}
use Rattle.pp_entry.specs.Gates.{extent_of, has_extent}
use Rattle.pp_recover.specs.declared.examine.Front.{Front}
use Rattle.pp_recover.specs.Closing.{gates_in, Tends}
use Rattle.pp_store.specs.Kept.{Kept}
use Rattle.pp_recover.specs.Image.{bytes_of, entry_of, extent_if, head_in}

-- a log that is told was told before, and what was added has P of what it was
pub record Extends (old new : Option Log) (P : Log → Log → Type 0) : Type 0 where
  pub was : (l : Log) → new ≡ Some l → (k : Log) × (hs : Log) × (old ≡ Some k) × (l ≡ k ++ hs) × P k hs

abbrev pub looked : Bytes → Bool → Log
looked name true = []
looked name false = Unread name ∷ []

-- only looks, and R of the file that stands under the name, or of none
abbrev pub Looks : Bytes → Bool → (Option Bytes → Type 0) → Log → Log → Type 0
Looks name ok R before hs = (hs ≡ looked name ok) × ((file : Option Bytes) → Stands name before (at_rest file) → R file)

-- the row whose head block it begins with
abbrev pub GivesHead : {A : Type 0} → (A → Row) → Bytes → Result (Option A) DiskFault → Option Bytes → Type 0
GivesHead shown name (Ok entry) file = option_map shown entry ≡ head_in name (bytes_of file)
GivesHead shown name (Err fault) file = ⊤

-- the gates of a body of this length
abbrev pub GivesGates : ℕ → Bytes → Result ℕ DiskFault → Option Bytes → Type 0
GivesGates n buffer (Ok count) file = take count buffer ≡ gates_in n (bytes_of file)
GivesGates n buffer (Err fault) file = ⊤

-- what these gates keep of it in a file of this length, where that is its length
abbrev pub front_in : ℕ → ℕ → Bytes → Option Front
front_in len n gates =
    if has_extent n (extent_of gates n) len then Some (record { gates = length gates; extent = extent_of gates n }) else None

-- how much of a body of this length it keeps, where its gates were read into the front of a buffer
abbrev pub GivesFront : ℕ → Bytes → Result (Option Front) DiskFault → Option Bytes → Type 0
GivesFront n buffer (Ok None) file = extent_if n (bytes_of file) ≡ None
GivesFront n buffer (Ok (Some front)) file =
    (extent_if n (bytes_of file) ≡ Some front.extent) × (take front.gates buffer ≡ gates_in n (bytes_of file))
GivesFront n buffer (Err fault) file = ⊤

-- the entry that it is, whose stray gates were closed; or a look or an operation failed
abbrev pub GivesEntry : {A : Type 0} → (A → Kept) → Bytes → Result (Option A) DiskFault → Log → Option Bytes → Type 0
GivesEntry shown name (Ok kept) hs file = (option_map shown kept ≡ entry_of name file) × Tends name file true hs
GivesEntry shown name (Err fault) hs file = Tends name file false hs

abbrev pub Examines : {A : Type 0} → (A → Kept) → Bytes → Result (Option A) DiskFault → Log → Log → Type 0
Examines shown name result before hs = (file : Option Bytes) → Stands name before (at_rest file) → GivesEntry shown name result hs file
