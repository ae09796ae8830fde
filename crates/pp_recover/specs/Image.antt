-- Which entries the files of a folder are.
use Rattle.std.specs.Prelude.{◌≡◌, ◌≤◌, ℕ, List, [], length, take, map, filter, bytes_eq, if◌then◌else◌, Option, Some, None, option_map}
use Rattle.std.specs.List.{filter_map}
use Rattle.std.specs.Option.{option_and_then}
use Rattle.pp_world.specs.Files.{Files, file_of}
use Rattle.pp_world.specs.Disk.{Bytes, is_name, names_in}
use Rattle.pp_entry.specs.Entries.{Row, row_at}
use Rattle.pp_entry.specs.Gates.{has_extent}
use Rattle.pp_gate.specs.Files.{extent_in}
use Rattle.pp_store.specs.Kept.{Kept}
use Rattle.pp_target.specs.Name.{name_of}

-- ours: a file is named for the key of its entry
abbrev pub named_for : Bytes → Row → Option Row
named_for name row = if bytes_eq (name_of row.key) name then Some row else None

-- a row that some block is the head block of, under the name of its key
pub record IsRowOf (name : Bytes) (row : Row) : Type 0 where
  pub block : Bytes
  pub is : row_at block ≡ Some row
  pub own : name_of row.key ≡ name

-- the row whose head block a file of this name begins with
unfoldable pub head_in : Bytes → Bytes → Option Row
head_in name file = option_and_then (named_for name) (row_at (take 8192 file))

-- how much of a body of this length is kept, where the file has all of it behind its head block and gates, and nothing
-- behind the body
unfoldable pub extent_if : ℕ → Bytes → Option ℕ
extent_if n file = if has_extent n (extent_in n file) (length file) then Some (extent_in n file) else None

abbrev pub kept_with : Bytes → Row → Option Kept
kept_with file row = option_map (λ extent. record { entry = row; extent = extent }) (extent_if row.version.length file)

-- the entry that a file of this name is
unfoldable pub entry_in : Bytes → Bytes → Option Kept
entry_in name file = option_and_then (kept_with file) (head_in name file)

-- the entry under a name, where a file is there or not
abbrev pub entry_of : Bytes → Option Bytes → Option Kept
entry_of name None = None
entry_of name (Some file) = entry_in name file

-- the entries of a folder, in the order of their names
abbrev pub entries_in : Files → List Kept
entries_in files = filter_map (λ name. entry_of name (file_of name files)) (names_in files)

-- no more names have the form of an entry's than are looked at
abbrev pub HasFewNames : Files → Type 0
HasFewNames files = length (filter is_name (map (λ file. file.0) files)) ≤ 65536

-- what reads give of a name
abbrev pub bytes_of : Option Bytes → Bytes
bytes_of None = []
bytes_of (Some file) = file
