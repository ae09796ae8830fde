-- The entries that are kept on the disk, and the names that are closed.
use Rattle.std.specs.Prelude.{false, ◌≡◌, ℕ, ◌+◌, ◌*◌, ◌≤◌, min, Bool, List, [], Option, unwrap_or, bytes_eq, count_by, find}
use Rattle.std.specs.List.{list_any}
use Rattle.pp_target.specs.Name.{name_of}
use Rattle.pp_entry.specs.Entries.{Row}
use Rattle.pp_entry.specs.Spelling.{text_of}
use Rattle.pp_entry.specs.Texts.{chunks_of, padded}

-- an entry, and how many bytes of its body are kept, from the first on
pub record Kept : Type 0 where
  pub entry : Row
  pub extent : ℕ

-- the entries that are kept, in the order in which they came, and the names that are closed for the rest of the life
pub record KeptMap : Type 0 where
  pub rows : List Kept
  pub closed : List (List ℕ)

-- ours: an entry is kept under the file name of its key
abbrev pub name_at : Kept → List ℕ
name_at row = name_of row.entry.key

abbrev pub is_of : List ℕ → Kept → Bool
is_of key row = bytes_eq row.entry.key key

abbrev pub is_under : List ℕ → Kept → Bool
is_under name row = bytes_eq (name_at row) name

-- the entry that is kept of a key
abbrev pub kept_of : List ℕ → KeptMap → Option Kept
kept_of key store = find (is_of key) store.rows

-- the entry that is kept under a name
abbrev pub kept_under : List ℕ → KeptMap → Option Kept
kept_under name store = find (is_under name) store.rows

abbrev pub is_name : List ℕ → List ℕ → Bool
is_name name other = bytes_eq other name

abbrev pub is_closed : List ℕ → KeptMap → Bool
is_closed name store = list_any (is_name name) store.closed

-- at most one entry is kept under a name, or the name is closed
pub record HasOwnNames (store : KeptMap) : Type 0 where
  pub once : (name : List ℕ) → count_by (is_under name) store.rows + count_by (is_name name) store.closed ≤ 1

-- ours: the chunks that are kept have 4,096 bytes, or end the body
abbrev pub IsExtent : ℕ → ℕ → Type 0
IsExtent n extent = min n (4096 * chunks_of extent) ≡ extent

-- the head block of an entry
abbrev pub block_of : Row → List ℕ
block_of entry = padded (text_of entry)

abbrev pub no_row : Kept
no_row = record {
  entry = record { key = []; version = record { tag = []; length = 0 }; fields = []; times = record { request = 0; response = 0; initial = 0; may_guess = false } };
  extent = 0;
}

-- the same, of a key of which one is kept
abbrev pub row_of : List ℕ → KeptMap → Kept
row_of key store = unwrap_or (kept_of key store) no_row
