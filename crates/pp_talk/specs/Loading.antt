-- The next byte of a client is on the disk alone: its chunk is read back before a write, or its entry is gone (ours).
use Rattle.std.specs.Prelude.{◌≡◌, ℕ, ◌≤◌, ◌+◌, ◌*◌, ◌/◌, cond, count_by, nat_lt, IfSome, List, [], ◌∷◌, ◌++◌, is_some, slice_get, take, Option, Some, None, Result, Ok, Err}
use Rattle.std.specs.Option.{option_and_then}
use Rattle.pp_cache.specs.Bounds.{IsBounded}
use Rattle.pp_cache.specs.OnDisk.{kept_to}
use Rattle.pp_desk.specs.Closings.{KeepsDesk, sides}
use Rattle.pp_desk.specs.declared.desk.Desk.{Desk}
use Rattle.pp_due.specs.OnDisk.{next_on_disk}
use Rattle.pp_links.specs.Failures.{fails}
use Rattle.pp_links.specs.Links.{Link}
use Rattle.pp_objects.specs.Instances.{Instance}
use Rattle.pp_objects.specs.declared.id.ObjectId.{ObjectId}
use Rattle.pp_seats.specs.declared.seat.Next.{Next}
use Rattle.pp_shelf.specs.Given.{keeps_byte}
use Rattle.pp_state.specs.Bodies.{IsButForCells, with_bytes, with_use}
use Rattle.pp_state.specs.Bringing.{instance_of}
use Rattle.pp_state.specs.declared.state.State.{State}
use Rattle.pp_store.specs.Changes.{loaded_after}
use Rattle.pp_store.specs.Kept.{KeptMap, kept_of, row_of}
use Rattle.pp_store.specs.Loads.{GivesChunk, LoadCause, chunk_len, load_happenings}
use Rattle.pp_store.specs.declared.faults.LoadFault.{LoadFault}
use Rattle.pp_target.specs.Name.{name_of}
use Rattle.pp_valid.specs.declared.version.Version.{Version}
use Rattle.pp_world.specs.Log.{AppendsAll, Log, Told}
use Rattle.pp_world.specs.declared.happening.Happening.TheVariants.{Noted}
use Rattle.pp_world.specs.declared.note.Remark.TheVariants.{Gone, Loaded}
use Rattle.pp_talk.specs.Talking.{Says}

-- ---- a chunk is read

-- how many bytes it has, or why it was not read; None where the shelf keeps no such chunk
abbrev pub Answer : Type 0
Answer = Option (Result ℕ LoadFault)

-- the entry of a chunk that cannot be read is gone
abbrev pub chunk_notes : Answer → List ℕ → Version → ℕ → Log
chunk_notes None key version index = []
chunk_notes (Some (Ok count)) key version index = Noted (Loaded key version.tag version.length index) ∷ []
chunk_notes (Some (Err fault)) key version index = Noted (Gone key) ∷ []

-- what the disk tells comes before the note
abbrev pub disk_log : Answer → List ℕ → Log
disk_log None key = []
disk_log (Some r) key = load_happenings (name_of key) r

abbrev pub load_log : Answer → List ℕ → Version → ℕ → Log
load_log answer key version index = disk_log answer key ++ chunk_notes answer key version index

abbrev pub shelf_after : Answer → List ℕ → KeptMap → KeptMap
shelf_after None key shelf = shelf
shelf_after (Some r) key shelf = loaded_after r key shelf

-- nothing of the instance is kept
abbrev pub with_none_kept : ObjectId → State → State
with_none_kept id s = record s { cache = record s.cache { extents = kept_to id 0 s.cache.extents } }

-- the bytes of the chunk join, of this instance
abbrev pub TakesChunk : Answer → List ℕ → ℕ → ObjectId → State → State → Type 0
TakesChunk None out index id old new = new ≡ with_none_kept id old
TakesChunk (Some (Ok count)) out index id old new = IsButForCells (with_use (record old { cache = with_bytes id (index * 4096) (take count out) old.cache })) new
TakesChunk (Some (Err fault)) out index id old new = new ≡ with_none_kept id old

-- the bytes are those of the entry's file, and of the failures in the log, where it is told, the outside counted each
pub record LoadsChunk (id : ObjectId) (index : ℕ) (key : List ℕ) (version : Version) (shelf : KeptMap) (s : State) (behind : KeptMap) (t : State) (old new : Option Log) (before now : ℕ) : Type 0 where
  pub answer : Answer
  pub out : List ℕ
  pub answered : is_some answer ≡ keeps_byte (4096 * index) (kept_of key shelf)
  pub bytes : IfSome answer (λ r. Told old (GivesChunk (row_of key shelf) index out r))
  pub told : AppendsAll old new (λ l. load_log answer key version index)
  pub cause : IfSome answer (LoadCause new before now (chunk_len (row_of key shelf).entry.version.length index))
  pub counted : Told new (λ l. before + count_by fails (load_log answer key version index) ≤ now)
  pub map : behind ≡ shelf_after answer key shelf
  pub is : TakesChunk answer out index id s t

-- ---- the chunk of a byte

abbrev pub StaysAll : KeptMap → State → KeptMap → State → Option Log → Option Log → ℕ → ℕ → Type 0
StaysAll shelf s behind t old new before now = (behind ≡ shelf) × (t ≡ s) × (new ≡ old) × (before ≤ now)

-- the number of a chunk has 32 bits
abbrev pub chunk_at : ℕ → Option ℕ
chunk_at at = cond (nat_lt (at / 4096) 4294967296) (Some (at / 4096)) None

abbrev pub LoadsOf : ObjectId → Option Instance → Option ℕ → KeptMap → State → KeptMap → State → Option Log → Option Log → ℕ → ℕ → Type 0
LoadsOf id None index shelf s behind t old new before now = StaysAll shelf s behind t old new before now
LoadsOf id (Some i) None shelf s behind t old new before now = StaysAll shelf s behind t old new before now
LoadsOf id (Some i) (Some index) shelf s behind t old new before now = LoadsChunk id index i.key i.version shelf s behind t old new before now

abbrev pub Loads : Next → KeptMap → State → KeptMap → State → Option Log → Option Log → ℕ → ℕ → Type 0
Loads next shelf s behind t old new before now = LoadsOf next.source (instance_of next.source s.cache.instances) (chunk_at next.at) shelf s behind t old new before now

-- ---- the next byte of the client at this place

abbrev pub LoadsWhere : Option Next → KeptMap → State → KeptMap → State → Option Log → Option Log → ℕ → ℕ → Type 0
LoadsWhere None shelf s behind t old new before now = StaysAll shelf s behind t old new before now
LoadsWhere (Some next) shelf s behind t old new before now = Loads next shelf s behind t old new before now

abbrev pub LoadsNext : ℕ → KeptMap → State → KeptMap → State → Option Log → Option Log → ℕ → ℕ → Type 0
LoadsNext i shelf s behind t old new before now = LoadsWhere (option_and_then (next_on_disk s) (slice_get s.seats.items i)) shelf s behind t old new before now

-- and then what is there is offered
pub record LoadsAndSays (i : ℕ) (links : List Link) (shelf : KeptMap) (x : Desk) (behind : KeptMap) (y : Desk) (old new : Option Log) (before now : ℕ) : Type 0 where
  pub loaded : Desk
  pub between : Option Log
  pub count : ℕ
  pub loads : LoadsNext i shelf x.state behind loaded.state old between before count
  pub stays : record loaded { state = x.state } ≡ x
  pub says : Says i loaded.state.awake.items links (sides loaded) (sides y) between new
  pub rest : KeepsDesk loaded (record y { room = loaded.room })
  pub counted : count ≤ now
  -- as each cache is
  pub bounded : IsBounded loaded.state.cache
