-- How the cache of the program stands for the table of the law: what is known of each key, and the chunks that are in memory, each in
-- the order of use.
use Rattle.std.specs.Prelude.{◌≡◌, ◌<◌, ◌≤◌, ℕ, true, false, ◌==◌, List, Option, Some, option_map, count_by, slice_get}
use Rattle.pp_cache.specs.Memory.{Memory, extent_of as bytes_kept}
use Rattle.pp_cache.specs.OnDisk.{bytes_of}
use Rattle.pp_holes.specs.Places.{Chunk, is_at}
use Rattle.pp_law.specs.State.{State, Instance as Known, Chunk as Front}
use Rattle.pp_law.specs.Table.{extent_of, follows}
use Rattle.pp_objects.specs.Instances.{Instance, id_of, in_slot, is_in_slot}
use Rattle.pp_objects.specs.OneRow.{HasOneRow}
use Rattle.pp_objects.specs.declared.id.ObjectId.{ObjectId}
use Rattle.pp_text.specs.Bytes.{is_empty}
use Rattle.pp_cache_law.specs.Pairs.{AreAll}

-- the law numbers each row that a response makes, also one for which memory was refused; the program gives a life to those alone
-- that are in memory. So each life has a number, which the log tells. This is that of the instance in a slot
abbrev pub number_in : (ℕ → ℕ) → ℕ → List Instance → Option ℕ
number_in number slot is = option_map (λ i. number i.life) (in_slot slot is)

-- an instance, alone in its slot. That it came in this turn is no part of it, but of the turn, and which of its chunks are in memory
-- is told by these
pub record ShowsInstance (number : ℕ → ℕ) (m : Memory) (s : State) (i : Instance) (x : Known) : Type 0 where
  pub there : in_slot i.slot m.instances ≡ Some i
  pub id : number i.life ≡ x.id
  pub key : i.key ≡ x.key
  pub version : i.version ≡ x.version
  pub fields : i.fields ≡ x.fields
  pub times : i.times ≡ x.times
  pub retired : i.is_retired ≡ x.is_retired
  pub followers : i.followers ≡ count_by (follows x.id) s.clients
  pub extent : bytes_kept (id_of i) m ≡ extent_of s x
  pub given : i.life < m.lives
  pub made : x.id < s.next_instance

-- a chunk of an instance that is there, with at least one byte
pub record ShowsChunk (number : ℕ → ℕ) (m : Memory) (c : Chunk) (d : Front) : Type 0 where
  pub owner : number_in number c.owner m.instances ≡ Some d.instance
  pub index : c.index ≡ d.index
  pub bytes : c.bytes ≡ d.bytes
  pub some : is_empty c.bytes ≡ false

-- no two instances have one slot or one number, no two rows one key, no two chunks one place, and nothing is kept of lives to come
pub record ShowsTable (number : ℕ → ℕ) (m : Memory) (s : State) : Type 0 where
  pub instances : AreAll (ShowsInstance number m s) m.instances s.instances
  pub chunks : AreAll (ShowsChunk number m) m.chunks s.chunks
  pub alone : (slot : ℕ) → count_by (is_in_slot slot) m.instances ≤ 1
  pub apart : (a b n : ℕ) → number_in number a m.instances ≡ Some n → number_in number b m.instances ≡ Some n → a ≡ b
  pub rows : HasOneRow m.instances
  pub once : (at : ℕ × ℕ) → count_by (is_at at) m.chunks ≤ 1
  pub unkept : (id : ObjectId) → m.lives ≤ id.life → bytes_of id (slice_get m.extents id.slot) ≡ 0

-- of all caches that show a table
abbrev pub OfTables : ((ℕ → ℕ) → Memory → State → Type 0) → Type 0
OfTables P = (number : ℕ → ℕ) (m : Memory) (s : State) → ShowsTable number m s → P number m s

-- one that is retired is there for a client that follows it
abbrev pub AreFollowed : List Instance → Type 0
AreFollowed is = (slot : ℕ) (i : Instance) → in_slot slot is ≡ Some i → i.is_retired ≡ true → (i.followers == 0) ≡ false

-- nobody follows an instance that is still to be made
abbrev pub NoneAhead : State → Type 0
NoneAhead s = (n : ℕ) → s.next_instance ≤ n → count_by (follows n) s.clients ≡ 0

-- it does so between two calls
pub record ShowsCache (number : ℕ → ℕ) (m : Memory) (s : State) : Type 0 where
  pub table : ShowsTable number m s
  pub followed : AreFollowed m.instances
  pub ahead : NoneAhead s

-- of all caches that do
abbrev pub OfCaches : ((ℕ → ℕ) → Memory → State → Type 0) → Type 0
OfCaches P = (number : ℕ → ℕ) (m : Memory) (s : State) → ShowsCache number m s → P number m s
