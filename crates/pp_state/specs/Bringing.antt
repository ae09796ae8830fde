-- What is held of a version, and what the exchanges bring (RFC 7233, sections 4.1 and 4.3; ours: what is near).
use Rattle.std.specs.Prelude.{ℕ, ◌+◌, ◌*◌, ◌/◌, Bool, false, ◌&&◌, ◌||◌, not, cond, min, max, nat_lt, nat_le, List, ◌++◌, length, bytes_eq, Option, Some, None}
use Rattle.std.specs.List.{list_any}
use Rattle.pp_cache.specs.Holes.{hole_of}
use Rattle.pp_cache.specs.Memory.{Memory, extent_of, is_in_memory, stands}
use Rattle.pp_flow.specs.Brings.{is_soon}
use Rattle.pp_flow.specs.Changes.{Exchanges}
use Rattle.pp_flow.specs.Entries.{Span}
use Rattle.pp_flow.specs.declared.entry.Aim.{Aim}
use Rattle.pp_flow.specs.declared.entry.Aim.TheVariants.{Own, Hole, Pass as Through}
use Rattle.pp_flow.specs.declared.entry.Entry.{Entry}
use Rattle.pp_holes.specs.Places.{bytes_at}
use Rattle.pp_objects.specs.Instances.{Instance, in_slot, is_same_id, is_there}
use Rattle.pp_objects.specs.declared.id.ObjectId.{ObjectId}
use Rattle.pp_plan.specs.Need.{is_near, need}
use Rattle.pp_seats.specs.declared.seat.Next.{Next}

-- ---- what is held

-- the instance, where it is there
abbrev pub instance_of : ObjectId → List Instance → Option Instance
instance_of id is = cond (is_there id is) (in_slot id.slot is) None

-- in memory, or on the disk
abbrev pub is_held : ObjectId → ℕ → Memory → Bool
is_held id at m = (is_there id m.instances && is_in_memory id.slot at m.chunks) || nat_lt at (extent_of id m)

-- how many bytes of a chunk are in memory
abbrev pub filled : ObjectId → ℕ → Memory → ℕ
filled id index m = cond (is_there id m.instances) (length (bytes_at (id.slot, index) m.chunks)) 0

-- from where on a span has to be in memory: what is before is on the disk
abbrev pub behind_extent : ObjectId → ℕ → Memory → ℕ
behind_extent id from m = max from (extent_of id m)

-- each offset of the half-open span is held
abbrev pub is_span_held : ObjectId → ℕ × ℕ → Memory → Bool
is_span_held id span m = nat_le span.1 (behind_extent id span.0 m) || nat_le span.1 (hole_of id (behind_extent id span.0 m) m).0

-- ---- what an exchange brings

-- the offset, and each before it in its chunk that is not in memory, are still to come, and soon enough
abbrev pub is_to_come : ObjectId → Span → ℕ → Memory → Bool
is_to_come id b at m = is_same_id b.0 id && nat_lt at b.2 && is_soon b.3 b.1 at && nat_le b.1 (min at (at / 4096 * 4096 + filled id (at / 4096) m))

-- it asks for that offset of that version, by its key and what it is for
abbrev pub asks_by : List ℕ → Aim → List ℕ → List ℕ → ℕ → Bool
asks_by of_key Own key tag at = false
asks_by of_key (Hole v from to) key tag at = bytes_eq of_key key && bytes_eq v.tag tag && nat_le from at && nat_lt at to && is_near from at
asks_by of_key Through key tag at = false

abbrev pub asks_for_in : Entry → Option Instance → ℕ → Bool
asks_for_in e None at = false
asks_for_in e (Some i) at = asks_by e.key.items e.exchange.aim i.key i.version.tag at

-- its head has not come, and it asks for that offset of that version
abbrev pub asks_for : ObjectId → ℕ → Memory → Entry → Bool
asks_for id at m e = not e.exchange.headed && asks_for_in e (instance_of id m.instances) at

abbrev pub brings_by : ObjectId → ℕ → Memory → Entry → Option Span → Bool
brings_by id at m e (Some b) = is_to_come id b at m
brings_by id at m e None = asks_for id at m e

abbrev pub brings : ObjectId → ℕ → Memory → Entry → Bool
brings id at m e = brings_by id at m e e.exchange.bound

abbrev pub is_brought : ObjectId → ℕ → Memory → Exchanges → Bool
is_brought id at m f = list_any (brings id at m) (f.waiting ++ f.placed)

-- the next byte is there or comes
abbrev pub is_provided : Next → Memory → Exchanges → Bool
is_provided n m f = is_held n.source n.at m || is_brought n.source n.at m f

-- of what the follower still wants, something is still to come by the exchange, soon enough
abbrev pub serves_by : Next → Memory → Entry → Option Span → Bool
serves_by n m e (Some b) = is_same_id b.0 n.source && nat_lt (max b.1 n.at) (min b.2 n.to) && is_soon b.3 b.1 n.at
serves_by n m e None = asks_for n.source n.at m e

abbrev pub serves : Next → Memory → Entry → Bool
serves n m e = serves_by n m e e.exchange.bound

-- ---- what followers ask for

-- of a version that was retired nothing is asked, nor what is there or comes
abbrev pub need_of : Next → Memory → Exchanges → Option (ℕ × ℕ)
need_of n m f = cond (not (stands n.source m.instances) || nat_le n.to n.at || is_provided n m f) None (need n.at n.to (hole_of n.source (n.at / 4096 * 4096) m))
