-- What becomes of the instances, and of the chunks in memory, in each call.
use Rattle.std.specs.Prelude.{ℕ, ◌+◌, ◌-◌, Bool, true, false, ◌==◌, ◌&&◌, not, cond, replicate, List, [], ◌∷◌, ◌++◌, Option, Some, None, map}
use Rattle.std.specs.List.{filter}
use Rattle.pp_text.specs.Fields.{Field}
use Rattle.pp_holes.specs.Places.{Chunk, without_owner}
use Rattle.pp_fresh.specs.declared.aging.Times.{Times}
use Rattle.pp_valid.specs.declared.version.Version.{Version}
use Rattle.pp_holes.specs.Cells.{chunks_of}
use Rattle.pp_objects.specs.declared.id.ObjectId.{ObjectId}
use Rattle.pp_objects.specs.Kept.{refreshed_of}
use Rattle.pp_objects.specs.Instances.{Instance, is_in_slot, row_of}

abbrev pub is_elsewhere : ℕ → Instance → Bool
is_elsewhere slot i = not (is_in_slot slot i)

-- the instance in a slot is changed, and no other
abbrev pub changed_in : ℕ → (Instance → Instance) → List Instance → List Instance
changed_in slot change is = map (λ i. cond (is_in_slot slot i) (change i) i) is

-- the instance in a slot is out
abbrev pub without_slot : ℕ → List Instance → List Instance
without_slot slot is = filter (is_elsewhere slot) is

-- the instance in a slot comes last, as the most recently used
abbrev pub marked : ℕ → List Instance → List Instance
marked slot is = filter (is_elsewhere slot) is ++ filter (is_in_slot slot) is

abbrev pub followed : Instance → Instance
followed i = record i { followers = i.followers + 1 }

abbrev pub left : Instance → Instance
left i = record i { followers = i.followers - 1 }

abbrev pub retired : Instance → Instance
retired i = record i { is_retired = true }

-- a response of the instance's version renews what it says anew
abbrev pub refreshed : List Field → Times → Instance → Instance
refreshed fields times i = record i { fields = refreshed_of i.fields fields times; times = times }

-- "two versions are never mixed": a row whose version is replaced stays as a retired instance while
-- somebody follows it, and is out at once where nobody does
abbrev pub is_unfollowed : Option Instance → Bool
is_unfollowed None = false
is_unfollowed (Some i) = i.followers == 0

abbrev pub retired_from : Option Instance → List Instance → List Instance
retired_from None is = is
retired_from (Some i) is = cond (i.followers == 0) (without_slot i.slot is) (changed_in i.slot retired is)

-- a row with nothing in memory
abbrev pub new_row : ObjectId → List ℕ → Version → List Field → Times → Instance
new_row id key version fields times = record {
  slot = id.slot;
  life = id.life;
  key = key;
  version = version;
  fields = fields;
  times = times;
  is_retired = false;
  followers = 0;
  cells = replicate (chunks_of version.length) None;
}

-- the former row of a key counts as retired
abbrev pub set_aside : Option Instance → List Instance → List Instance
set_aside None is = is
set_aside (Some i) is = changed_in i.slot retired is

-- a new row of a key is the most recently used, and a former one is retired
abbrev pub settled : ObjectId → List ℕ → Version → List Field → Times → List Instance → List Instance
settled id key version fields times is = retired_from (row_of key is) (is ++ new_row id key version fields times ∷ [])

-- the last follower of a retired instance
abbrev pub is_last : Option Instance → Bool
is_last None = false
is_last (Some i) = i.is_retired && (i.followers == 1)

abbrev pub left_from : ℕ → Option Instance → List Instance → List Instance
left_from slot i is = cond (is_last i) (without_slot slot is) (changed_in slot left is)

-- the chunks of an instance that is out are given back
abbrev pub given_back : Bool → ℕ → List Chunk → List Chunk
given_back gone slot cs = cond gone (without_owner slot cs) cs

abbrev pub slot_in : Option Instance → ℕ
slot_in None = 0
slot_in (Some i) = i.slot

abbrev pub given_back_by : Option Instance → List Chunk → List Chunk
given_back_by i cs = given_back (is_unfollowed i) (slot_in i) cs

-- an instance but for what it has in memory
abbrev pub face : Instance → Instance
face i = record i { cells = [] }

-- the instances but for what they have in memory, which the pool tells
abbrev pub faces : List Instance → List Instance
faces is = map face is
