-- A row that a response brings, with the room for it.
use Rattle.std.specs.Prelude.{◌≡◌, ◌≤◌, Bool, cond, nat_le, nat_lt, List, count_by, bytes_eq, Option, Some, None}
use Rattle.std.specs.List.{find}
use Rattle.pp_cache.specs.Memory.{Memory, with_outdated, with_row}
use Rattle.pp_fresh.specs.declared.aging.Times.{Times}
use Rattle.pp_holes.specs.Places.{without_owner}
use Rattle.pp_law.specs.Lists.{Bytes}
use Rattle.pp_law.specs.State.{Entry}
use Rattle.pp_law.specs.Table.{enter, make_row, rows}
use Rattle.pp_objects.specs.Changes.{without_slot}
use Rattle.pp_objects.specs.Instances.{Instance, in_slot, is_idle, is_row, row_of}
use Rattle.pp_objects.specs.Kept.{kept_of}
use Rattle.pp_objects.specs.declared.id.ObjectId.{ObjectId}
use Rattle.pp_text.specs.Fields.{Field}
use Rattle.pp_valid.specs.declared.version.Version.{Version}
use Rattle.pp_cache_law.specs.Reads.{AreBusy}
use Rattle.pp_cache_law.specs.Settles.{MayEnter, entered, numbered}
use Rattle.pp_cache_law.specs.Tables.{OfCaches, ShowsCache}

-- an instance leaves memory with its chunks
abbrev pub without_one : Option Instance → Memory → Memory
without_one None m = m
without_one (Some i) m = record m { instances = without_slot i.slot m.instances; chunks = without_owner i.slot m.chunks }

-- where there are as many rows as may be, the one that is next leaves memory; a row in the place of a former one needs no room
abbrev pub room_by : Option Instance → List ObjectId → Memory → Memory
room_by (Some former) busy m = m
room_by None busy m = cond (nat_le 1024 (count_by is_row m.instances)) (without_one (find (is_idle busy) m.instances) m) m

abbrev pub with_room : Bytes → List ObjectId → Memory → Memory
with_room key busy m = room_by (row_of key m.instances) busy m

-- where no more rows are there than may be
abbrev pub MakingsAreTheLaws : Type 0
MakingsAreTheLaws = OfCaches (λ number m s. (busy : List ObjectId) (id : ObjectId) (key : Bytes) (version : Version) (fields : List Field) (times : Times) → rows s ≤ 1024 → AreBusy number m s busy
    → in_slot id.slot (with_room key busy m).instances ≡ None → id.life ≡ m.lives
    → ShowsCache (numbered m.lives s.next_instance number) (with_outdated key (with_row id key version fields times (with_room key busy m))) (make_row key version (kept_of fields times) times s))

-- where a kept row came in for a decision and there are more rows than may be, the one that is next leaves memory, but not that one
abbrev pub way_by : Bytes → Option Instance → Memory → Memory
way_by key None m = m
way_by key (Some i) m = cond (bytes_eq i.key key) m (without_one (Some i) m)

abbrev pub give_way : Bytes → List ObjectId → Memory → Memory
give_way key busy m = cond (nat_lt 1024 (count_by is_row m.instances)) (way_by key (find (is_idle busy) m.instances) m) m

-- the law has it leave before
abbrev pub EnteringsWithRoomAreTheLaws : Type 0
EnteringsWithRoomAreTheLaws = OfCaches (λ number m s. (busy : List ObjectId) (id : ObjectId) (key : Bytes) (stored : List Field) (e : Entry) (is_new : Bool) → AreBusy number m s busy → MayEnter m s id key stored e
    → ShowsCache (numbered m.lives s.next_instance number) (give_way key busy (entered id key stored e m)) (enter key is_new s))
