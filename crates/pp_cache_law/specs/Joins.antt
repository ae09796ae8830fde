-- Bytes that a read brings join the chunks of the table, and of the cache alike.
use Rattle.std.specs.Prelude.{◌≡◌, ◌<◌, ◌≤◌, ◌+◌, ◌-◌, ◌*◌, ◌/◌, ◌%◌, ◌⊎◌, ℕ, true, false, min, List, length, drop, take, Some}
use Rattle.pp_cache.specs.OnDisk.{grown_by}
use Rattle.pp_holes.specs.Adding.{Adding, added}
use Rattle.pp_holes.specs.Places.{Chunk, bytes_at}
use Rattle.pp_law.specs.Chunks.{joined}
use Rattle.pp_law.specs.Lists.{Bytes}
use Rattle.pp_law.specs.OwnHeads.{join}
use Rattle.pp_law.specs.State.{Bound, Entry, Instance as Known}
use Rattle.pp_law.specs.Store.{chunk_in_file, load}
use Rattle.pp_law.specs.Table.{extent_of, instance, kept_row, row}
use Rattle.pp_objects.specs.Changes.{faces}
use Rattle.pp_objects.specs.Instances.{Instance, is_there}
use Rattle.pp_objects.specs.declared.id.ObjectId.{ObjectId}
use Rattle.pp_cache_law.specs.Tables.{OfCaches, ShowsCache}

-- what is kept on the disk ends with a chunk, or with the body
abbrev pub EndsWhole : ℕ → ℕ → Type 0
EndsWhole extent length = (extent % 4096 ≡ 0) ⊎ (extent ≡ length)

-- how many of so many bytes are kept already
abbrev pub kept_of_run : ℕ → ℕ → ℕ → ℕ
kept_of_run extent at n = min n (extent - at)

-- those that are not are added
abbrev pub added_behind : ℕ → ℕ → ℕ → ℕ → Bytes → List Chunk → Adding
added_behind extent size slot at bytes cs = added size slot (at + kept_of_run extent at (length bytes)) (drop (kept_of_run extent at (length bytes)) bytes) cs

-- where each finds a chunk: the law has chunks for all
abbrev pub JoinsAreTheLaws : Type 0
JoinsAreTheLaws = OfCaches (λ number m s. (is : List Instance) (id : ObjectId) (x : Known) (b : Bound) (bytes : Bytes) → is_there id m.instances ≡ true → instance s (number id.life) ≡ Some x → b.instance ≡ number id.life
    → EndsWhole (extent_of s x) x.version.length → b.next + length bytes ≤ x.version.length → (added_behind (extent_of s x) m.size id.slot b.next bytes m.chunks).need_chunk ≡ false → faces is ≡ faces m.instances
    → ShowsCache number
    (record m { instances = is; chunks = (added_behind (extent_of s x) m.size id.slot b.next bytes m.chunks).chunks; grown = grown_by id m.grown })
    (join b bytes s))

-- a chunk is read back from the disk, of which memory has a front at most, or nothing
abbrev pub LoadsAreTheLaws : Type 0
LoadsAreTheLaws = OfCaches (λ number m s. (is : List Instance) (id : ObjectId) (x : Known) (e : Entry) (i : ℕ) → is_there id m.instances ≡ true → instance s (number id.life) ≡ Some x → row s x.key ≡ Some x → kept_row s x.key ≡ Some e
    → bytes_at (id.slot, i) m.chunks ≡ take (length (bytes_at (id.slot, i) m.chunks)) (chunk_in_file s e i) → length (bytes_at (id.slot, i) m.chunks) < length (chunk_in_file s e i)
    → (added m.size id.slot (i * 4096) (chunk_in_file s e i) m.chunks).need_chunk ≡ false → faces is ≡ faces m.instances
    → ShowsCache number (record m { instances = is; chunks = (added m.size id.slot (i * 4096) (chunk_in_file s e i) m.chunks).chunks; grown = grown_by id m.grown }) (load x.key i s))

-- each finds a chunk where so many are free as the bytes may begin
abbrev pub RoomIsEnough : Type 0
RoomIsEnough = (size slot at : ℕ) (bytes : Bytes) (cs : List Chunk) → length cs + (length bytes / 4096 + 2) ≤ size → (added size slot at bytes cs).need_chunk ≡ false

-- and where the law has no more chunks then than there may be
abbrev pub MarkIsEnough : Type 0
MarkIsEnough = OfCaches (λ number m s. (id : ObjectId) (x : Known) (at : ℕ) (bytes : Bytes) → is_there id m.instances ≡ true → instance s (number id.life) ≡ Some x → EndsWhole (extent_of s x) x.version.length → at + length bytes ≤ x.version.length
    → length (joined x.id (extent_of s x) at bytes s.chunks) ≤ m.size → (added_behind (extent_of s x) m.size id.slot at bytes m.chunks).need_chunk ≡ false)
