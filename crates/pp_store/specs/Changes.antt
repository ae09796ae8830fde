-- What becomes of the entries that are kept, and of the closed names, in each call.
use Rattle.std.specs.Prelude.{ℕ, Bool, List, [], ◌∷◌, ◌++◌, map, filter, not, cond, Result, Ok, Err}
use Rattle.pp_fresh.specs.declared.aging.Times.{Times}
use Rattle.pp_valid.specs.declared.version.Version.{Version}
use Rattle.pp_text.specs.Fields.{Field}
use Rattle.pp_target.specs.Name.{name_of}
use Rattle.pp_entry.specs.Entries.{Row}
use Rattle.pp_store.specs.declared.faults.KeepFault.{KeepFault}
use Rattle.pp_store.specs.declared.faults.KeepFault.TheVariants.{Closed, Full, TooLong, NoDraft, DiskFault, OutOfMemory}
use Rattle.pp_store.specs.Kept.{Kept, KeptMap, is_of, is_closed}

abbrev pub no_entries : KeptMap
no_entries = record { rows = []; closed = [] }

abbrev pub entry_with : List ℕ → Version → List Field → Times → Row
entry_with key version fields times = record { key = key; version = version; fields = fields; times = times }

abbrev pub with_row : Row → ℕ → KeptMap → KeptMap
with_row entry extent store = record { rows = store.rows ++ record { entry = entry; extent = extent } ∷ []; closed = store.closed }

abbrev pub extended_to : ℕ → Kept → Kept
extended_to extent row = record { entry = row.entry; extent = extent }

-- so many bytes of the key's entry are kept, and all else is as it was
abbrev pub extended : List ℕ → ℕ → KeptMap → KeptMap
extended key extent store = record { rows = map (λ row. cond (is_of key row) (extended_to extent row) row) store.rows; closed = store.closed }

abbrev pub is_other : List ℕ → Kept → Bool
is_other key row = not (is_of key row)

-- the key is not kept
abbrev pub without : List ℕ → KeptMap → KeptMap
without key store = record { rows = filter (is_other key) store.rows; closed = store.closed }

abbrev pub with_closed : List ℕ → KeptMap → KeptMap
with_closed name store = record { rows = store.rows; closed = store.closed ++ name ∷ [] }

abbrev pub closed_once : List ℕ → KeptMap → KeptMap
closed_once name store = cond (is_closed name store) store (with_closed name store)

-- "After a failed operation on a name, the name is closed", and the key is not kept
abbrev pub lost : List ℕ → KeptMap → KeptMap
lost key store = with_closed (name_of key) (without key store)

-- ---- by the answer of the call

-- the entry is kept with so many bytes of its body; a fault of the draft touched no name
abbrev pub kept_after : {A : Type 0} → Result A KeepFault → Row → ℕ → KeptMap → KeptMap
kept_after (Ok done) entry extent store = with_row entry extent store
kept_after (Err Closed) entry extent store = store
kept_after (Err Full) entry extent store = store
kept_after (Err TooLong) entry extent store = store
kept_after (Err NoDraft) entry extent store = store
kept_after (Err DiskFault) entry extent store = with_closed (name_of entry.key) store
kept_after (Err OutOfMemory) entry extent store = store

abbrev pub extended_after : {E : Type 0} → Result ℕ E → List ℕ → KeptMap → KeptMap
extended_after (Ok extent) key store = extended key extent store
extended_after (Err fault) key store = lost key store

abbrev pub loaded_after : {A E : Type 0} → Result A E → List ℕ → KeptMap → KeptMap
loaded_after (Ok count) key store = store
loaded_after (Err fault) key store = lost key store

abbrev pub withdrawn_after : {A E : Type 0} → Result A E → List ℕ → KeptMap → KeptMap
withdrawn_after (Ok done) key store = without key store
withdrawn_after (Err fault) key store = lost key store
