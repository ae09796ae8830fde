-- What stands on the disk alone (ours): bytes that are read back, and rows that come into memory.
use Rattle.std.specs.Prelude.{ℕ, ◌≡◌, ◌<◌, Bool, true, false, ◌&&◌, ◌||◌, not, nat_lt, List, length, bytes_eq, is_some, Option, Some, None}
use Rattle.std.specs.List.{list_any}
use Rattle.std.specs.Option.{option_and_then}
use Rattle.pp_cache.specs.Bounds.{IsBounded}
use Rattle.pp_cache.specs.Memory.{Memory, extent_of, is_in_memory, with_row}
use Rattle.pp_cache.specs.OnDisk.{kept_to}
use Rattle.pp_objects.specs.Instances.{in_slot, is_there, row_of}
use Rattle.pp_objects.specs.declared.id.ObjectId.{ObjectId}
use Rattle.pp_seats.specs.Follows.{next_of}
use Rattle.pp_seats.specs.Seats.{is_at_body}
use Rattle.pp_seats.specs.declared.seat.Next.{Next}
use Rattle.pp_seats.specs.declared.seat.Seat.{Seat}
use Rattle.pp_store.specs.Kept.{Kept, KeptMap, kept_of}
use Rattle.pp_target.specs.Name.{name_of}
use Rattle.pp_state.specs.declared.state.State.{State}

-- ---- bytes

-- this byte is kept, and is not in memory
abbrev pub is_on_disk : Next → Memory → Bool
is_on_disk n m = nat_lt n.at (extent_of n.source m) && not (is_there n.source m.instances && is_in_memory n.source.slot n.at m.chunks)

abbrev pub if_on_disk : Memory → Next → Option Next
if_on_disk m n = elim (is_on_disk n m) [ true ↦ Some n | false ↦ None ]

-- the next byte of a client, where it is said next and stands on the disk alone
abbrev pub next_on_disk : State → Seat → Option Next
next_on_disk s seat = elim (is_at_body seat) [ true ↦ option_and_then (if_on_disk s.cache) (next_of seat) | false ↦ None ]

-- ---- rows

-- what is kept of a key that has no row in memory, as long as it stands for its row
abbrev pub kept_alone : List ℕ → KeptMap → Memory → Option Kept
kept_alone key shelf m = elim (is_some (row_of key m.instances) || list_any (bytes_eq (name_of key)) m.outdated) [ true ↦ None | false ↦ kept_of key shelf ]

-- the row of the key, of which so many bytes are kept
abbrev pub with_kept : ObjectId → List ℕ → Kept → Memory → Memory
with_kept id key row m = record (with_row id key row.entry.version row.entry.fields row.entry.times m) { extents = kept_to id row.extent m.extents }

-- it comes into memory, where nothing stood, and stands within the bounds of the cache
pub record Enters (key : List ℕ) (row : Kept) (old new : Memory) : Type 0 where
  pub id : ObjectId
  pub vacant : in_slot id.slot old.instances ≡ None
  pub life : id.life ≡ old.lives
  pub slot : id.slot < length old.extents
  pub entered : new ≡ with_kept id key row old
  pub bounded : IsBounded new

abbrev pub IsBrought : List ℕ → Option Kept → Memory → Memory → Type 0
IsBrought key None old new = new ≡ old
IsBrought key (Some row) old new = Enters key row old new
