-- The entries of a folder: files whose head block, gates, length and name agree.
use Rattle.std.specs.Prelude.{ℕ, true, false, ◌&&◌, List, length, take, drop, filter_map, bytes_eq, Option, Some, None, option_and_then}
use Rattle.pp_entry.specs.Entries.{Row, row_at}
use Rattle.pp_entry.specs.Gates.{extent_of, has_extent}
use Rattle.pp_entry.specs.Texts.{chunks_of}
use Rattle.pp_objects.specs.Kept.{kept_of}
use Rattle.pp_target.specs.Name.{name_of}
use Rattle.pp_world.specs.Files.{Files}
use Rattle.pp_law.specs.Lists.{Bytes}
use Rattle.pp_law.specs.State.{Entry}

-- how much of the body is behind open gates
abbrev pub kept_in : ℕ → Bytes → ℕ
kept_in n file = extent_of (take (chunks_of n) (drop 8192 file)) n

-- its row has the fields that are kept of those in the file, as of a response
abbrev pub entry_with : Bytes → Bytes → Row → Option Entry
entry_with name file row =
    let extent = kept_in row.version.length file in
    elim (bytes_eq (name_of row.key) name && has_extent row.version.length extent (length file)) [
      | true ↦ Some (record { name = name; key = row.key; version = row.version; fields = kept_of row.fields row.times; times = row.times; extent = extent; is_stale = false })
      | false ↦ None
    ]

-- the entry that a file of this name is
abbrev pub entry_in : Bytes → Bytes → Option Entry
entry_in name file = option_and_then (entry_with name file) (row_at (take 8192 file))

abbrev pub entries_in : Files → List Entry
entries_in files = filter_map (λ file. entry_in file.0 file.1) files
