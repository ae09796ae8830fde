-- What is read of the cache is what the law reads of its table.
use Rattle.std.specs.Prelude.{◌*◌, ◌/◌, max, min, nat_le, false, ◌<◌, ◌≤◌, ◌≡◌, ℕ, true, not, ◌&&◌, ◌||◌, nat_lt, List, ◌∷◌, length, Some, None, option_map, count_by}
use Rattle.std.specs.List.{find, list_any}
use Rattle.pp_cache.specs.Memory.{Memory, all_used, extent_of as bytes_kept, is_in_memory, stands, used_of as as_used}
use Rattle.pp_evict.specs.Victims.{victim_in}
use Rattle.pp_holes.specs.Places.{Chunk, bytes_at}
use Rattle.pp_law.specs.Chunks.{chunk_bytes, floor, used_of, victim}
use Rattle.pp_law.specs.Followers.{hole_of}
use Rattle.pp_law.specs.Lists.{Bytes}
use Rattle.pp_law.specs.State.{State, Instance as Known, Chunk as Front}
use Rattle.pp_law.specs.Table.{Next, extent_of, idle_row, instance, is_bound_to, is_held, is_next_held, is_span_held, row, rows}
use Rattle.pp_objects.specs.Instances.{Instance, id_of, in_slot, is_idle, is_row, is_same_id, is_there, row_of}
use Rattle.pp_objects.specs.declared.id.ObjectId.{ObjectId}
use Rattle.pp_pool.specs.Chunks.{is_pinned}
use Rattle.pp_cache_law.specs.Pairs.{AreBoth}
use Rattle.pp_cache_law.specs.Tables.{OfTables, ShowsChunk, ShowsInstance, number_in}

-- ---- instances

-- the row of a key, and its version
abbrev pub RowsAreTheLaws : Type 0
RowsAreTheLaws = OfTables (λ number m s. (key : Bytes) → AreBoth (ShowsInstance number m s) (row_of key m.instances) (row s key))

abbrev pub VersionsAreTheLaws : Type 0
VersionsAreTheLaws = OfTables (λ number m s. (key : Bytes) → option_map (λ i. i.version) (row_of key m.instances) ≡ option_map (λ x. x.version) (row s key))

-- the instance of an id that is there, and the law's of its number
pub record IsFound (number : ℕ → ℕ) (m : Memory) (s : State) (id : ObjectId) : Type 0 where
  pub seen : Instance
  pub known : Known
  pub same : id_of seen ≡ id
  pub here : in_slot id.slot m.instances ≡ Some seen
  pub there : instance s (number id.life) ≡ Some known
  pub shows : ShowsInstance number m s seen known

abbrev pub InstancesAreTheLaws : Type 0
InstancesAreTheLaws = OfTables (λ number m s. (id : ObjectId) → is_there id m.instances ≡ true → IsFound number m s id)

-- of an instance that is there
abbrev pub OfInstances : ((ℕ → ℕ) → Memory → State → ObjectId → Known → Type 0) → Type 0
OfInstances P = OfTables (λ number m s. (id : ObjectId) (x : Known) → is_there id m.instances ≡ true → instance s (number id.life) ≡ Some x → P number m s id x)

-- whether it stands for its key, and how far it is kept on the disk
abbrev pub RetiredIsTheLaws : Type 0
RetiredIsTheLaws = OfInstances (λ number m s id x. not (stands id m.instances) ≡ x.is_retired)

abbrev pub ExtentsAreTheLaws : Type 0
ExtentsAreTheLaws = OfInstances (λ number m s id x. bytes_kept id m ≡ extent_of s x)

-- ---- how many rows there are, and which goes

abbrev pub RoomIsTheLaws : Type 0
RoomIsTheLaws = OfTables (λ number m s. count_by is_row m.instances ≡ rows s)

-- these are the instances that exchanges are bound to
abbrev pub AreBusy : (ℕ → ℕ) → Memory → State → List ObjectId → Type 0
AreBusy number m s busy = (i : Instance) (x : Known) → ShowsInstance number m s i x → list_any (is_same_id (id_of i)) busy ≡ list_any (is_bound_to x.id) s.exchanges

abbrev pub IdleRowsAreTheLaws : Type 0
IdleRowsAreTheLaws = OfTables (λ number m s. (busy : List ObjectId) → AreBusy number m s busy → AreBoth (ShowsInstance number m s) (find (is_idle busy) m.instances) (idle_row s))

-- ---- bytes

-- what is held of a chunk of an instance that is there
abbrev pub BytesAreTheLaws : Type 0
BytesAreTheLaws = OfTables (λ number m s. (id : ObjectId) (index : ℕ) → is_there id m.instances ≡ true → bytes_at (id.slot, index) m.chunks ≡ chunk_bytes (number id.life) index s.chunks)

-- a byte is held, in memory or on the disk
abbrev pub HeldIsTheLaws : Type 0
HeldIsTheLaws = OfInstances (λ number m s id x. (at : ℕ) → ((is_there id m.instances && is_in_memory id.slot at m.chunks) || nat_lt at (bytes_kept id m)) ≡ is_held s x at)

-- from an offset on all is in memory, up to one that is not, or to the end
pub record IsHole (slot from to total : ℕ) (cs : List Chunk) : Type 0 where
  pub behind : min from total ≤ to
  pub held : (at : ℕ) → from ≤ at → at < to → is_in_memory slot at cs ≡ true
  pub missing : to < total → is_in_memory slot to cs ≡ false

-- no chunk has more than its bytes
abbrev pub AreFronts : ℕ → List Chunk → Type 0
AreFronts slot cs = (index : ℕ) → length (bytes_at (slot, index) cs) ≤ 4096

-- each byte of a span is held: what is behind the extent has no hole
abbrev pub SpansAreTheLaws : Type 0
SpansAreTheLaws = OfInstances (λ number m s id x. (from to hole : ℕ) → AreFronts id.slot m.chunks → to ≤ x.version.length → IsHole id.slot (max from (bytes_kept id m)) hole x.version.length m.chunks
    → (nat_le to (max from (bytes_kept id m)) || nat_le to hole) ≡ is_span_held s x (from, to))

-- behind it nothing is in memory, up to where something is again, or to the end, behind which nothing is
pub record IsGap (slot : ℕ) (hole : ℕ × ℕ) (total : ℕ) (cs : List Chunk) : Type 0 where
  pub some : hole.0 < total → hole.0 < hole.1
  pub within : hole.1 ≤ total
  pub gap : (at : ℕ) → hole.0 ≤ at → at < hole.1 → is_in_memory slot at cs ≡ false
  pub ends : hole.1 < total → is_in_memory slot hole.1 cs ≡ true
  pub none : (at : ℕ) → total ≤ at → is_in_memory slot at cs ≡ false

-- the hole of a byte that is not held, from the first offset of its chunk on, that is not below the extent
abbrev pub HolesAreTheLaws : Type 0
HolesAreTheLaws = OfInstances (λ number m s id x. (n : Next) (hole : ℕ × ℕ) → n.source ≡ x → n.at < x.version.length → is_next_held s n ≡ false → bytes_kept id m ≤ n.at / 4096 * 4096 → AreFronts id.slot m.chunks
    → IsHole id.slot (n.at / 4096 * 4096) hole.0 x.version.length m.chunks → IsGap id.slot hole x.version.length m.chunks → hole_of s n ≡ hole)

-- ---- how many chunks are used, and which goes

abbrev pub UsedIsTheLaws : Type 0
UsedIsTheLaws = OfTables (λ number m s. length m.chunks ≡ length s.chunks)

-- the same chunks are pinned
abbrev pub ArePinned : (ℕ → ℕ) → Memory → List (ℕ × ℕ) → List (ℕ × ℕ) → Type 0
ArePinned number m pins others = (c : Chunk) (d : Front) → ShowsChunk number m c d → is_pinned pins (as_used c) ≡ is_pinned others (used_of d)

abbrev pub IsSamePlace : (ℕ → ℕ) → Memory → ℕ × ℕ → ℕ × ℕ → Type 0
IsSamePlace number m at other = (number_in number at.0 m.instances ≡ Some other.0) × (at.1 ≡ other.1)

abbrev pub VictimsAreTheLaws : Type 0
VictimsAreTheLaws = OfTables (λ number m s. (pins others : List (ℕ × ℕ)) → ArePinned number m pins others → AreBoth (IsSamePlace number m) (victim_in pins (floor s) (all_used m.chunks)) (victim others s))

-- a pin more: of an instance that is there, or, in the law alone, of one that is gone
abbrev pub PinsAreTheLaws : Type 0
PinsAreTheLaws = OfTables (λ number m s. (at other : ℕ × ℕ) (pins others : List (ℕ × ℕ)) → IsSamePlace number m at other → ArePinned number m pins others → ArePinned number m (at ∷ pins) (other ∷ others))

abbrev pub GonePinsAreNone : Type 0
GonePinsAreNone = OfTables (λ number m s. (other : ℕ × ℕ) (pins others : List (ℕ × ℕ)) → instance s other.0 ≡ None → ArePinned number m pins others → ArePinned number m pins (other ∷ others))
