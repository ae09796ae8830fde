-- What changes the chunks of the cache changes the table of the law alike.
use Rattle.std.specs.Prelude.{◌≡◌, ◌<◌, ◌≤◌, ◌+◌, ◌-◌, ◌/◌, ℕ, true, min, List}
use Rattle.pp_cache.specs.Uses.{used_run}
use Rattle.pp_holes.specs.Cells.{chunks_of}
use Rattle.pp_holes.specs.Places.{without}
use Rattle.pp_law.specs.Chunks.{drop_chunk}
use Rattle.pp_law.specs.Replies.{use_chunks, use_from}
use Rattle.pp_law.specs.Table.{Next}
use Rattle.pp_objects.specs.Changes.{faces}
use Rattle.pp_objects.specs.Instances.{Instance, is_there}
use Rattle.pp_objects.specs.declared.id.ObjectId.{ObjectId}
use Rattle.pp_cache_law.specs.Reads.{IsSamePlace}
use Rattle.pp_cache_law.specs.Tables.{OfCaches, ShowsCache}

-- so many chunks of an instance that is there are used, in their order
abbrev pub UsesAreTheLaws : Type 0
UsesAreTheLaws = OfCaches (λ number m s. (id : ObjectId) (n index : ℕ) → is_there id m.instances ≡ true
    → ShowsCache number (record m { chunks = used_run n id.slot index m.chunks }) (use_chunks n (number id.life) index s))

-- those of bytes of it that were said
abbrev pub TouchesAreTheLaws : Type 0
TouchesAreTheLaws = OfCaches (λ number m s. (id : ObjectId) (n : ℕ) (x : Next) → is_there id m.instances ≡ true → number id.life ≡ x.source.id → 0 < n → x.at + n ≤ 1073741824
    → ShowsCache number (record m { chunks = used_run (chunks_of (min (x.at + n) 1073741824) - x.at / 4096) id.slot (x.at / 4096) m.chunks }) (use_from n x s))

-- the chunk of a place is out; what its instance has in memory is no part of that instance's face
abbrev pub EvictionsAreTheLaws : Type 0
EvictionsAreTheLaws = OfCaches (λ number m s. (is : List Instance) (at other : ℕ × ℕ) → faces is ≡ faces m.instances → IsSamePlace number m at other
    → ShowsCache number (record m { instances = is; chunks = without at m.chunks }) (drop_chunk other.0 other.1 s))
