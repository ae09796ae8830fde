-- A retired instance leaves the table with its last follower.
use Rattle.std.specs.Prelude.{◌≡◌, ◌≤◌, ℕ, true, List, count_by}
use Rattle.pp_cache.specs.Memory.{Memory, retired_at}
use Rattle.pp_law.specs.Lists.{Bytes}
use Rattle.pp_law.specs.State.{State, Client}
use Rattle.pp_law.specs.Table.{clear, follows, swept}
use Rattle.pp_objects.specs.Changes.{given_back, is_last, left_from}
use Rattle.pp_objects.specs.Instances.{in_slot, is_there}
use Rattle.pp_objects.specs.declared.id.ObjectId.{ObjectId}
use Rattle.pp_cache_law.specs.Changes.{IsFollowedToo}
use Rattle.pp_cache_law.specs.Tables.{OfCaches, ShowsCache}

-- one client less follows it: one that is retired leaves memory with its last follower
abbrev pub LeavingsAreTheLaws : Type 0
LeavingsAreTheLaws = OfCaches (λ number m s. (id : ObjectId) (cs : List Client) → is_there id m.instances ≡ true → IsFollowedToo (number id.life) cs s.clients
    → ShowsCache number
    (record m { instances = left_from id.slot (in_slot id.slot m.instances) m.instances; chunks = given_back (is_last (in_slot id.slot m.instances)) id.slot m.chunks })
    (swept (record s { clients = cs })))

-- the row of a key is not known any more
abbrev pub RetiringsAreTheLaws : Type 0
RetiringsAreTheLaws = OfCaches (λ number m s. (key : Bytes) → ShowsCache number (retired_at key m) (clear key s))

-- of several clients that leave at once each leaves by a call of its own: swept behind each, the table is swept as behind all
abbrev pub SweepsAreTheLaws : Type 0
SweepsAreTheLaws = (number : ℕ → ℕ) (m : Memory) (s : State) (cs ds : List Client) → ((n : ℕ) → count_by (follows n) ds ≤ count_by (follows n) cs) → ShowsCache number m (swept (record (swept (record s { clients = cs })) { clients = ds }))
    → ShowsCache number m (swept (record s { clients = ds }))
