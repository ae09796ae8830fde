-- An event brings nothing that is to be kept, but for the read of an origin (ours): rows are not known any more, instances go with their last
-- follower, and a chunk that is read back was kept.
--
-- Where the premises come from: whole chunks are kept as the shelf shows the law's entries (`ShownChunksAreWhole`).
use Rattle.std.specs.Prelude.{◌≡◌, ◌≤◌, ℕ, Bool, false, not, is_some, length, List, Some}
use Rattle.pp_proxy.specs.Handling.{Handles}
use Rattle.pp_proxy.specs.Moving.{Turning}
use Rattle.pp_law.specs.State.{State}
use Rattle.pp_shelf_law.specs.AsKept.{EachIsAsKept}
use Rattle.pp_shelf_law.specs.Shelf.{ShowsShelf}
use Rattle.pp_state.specs.Ends.{numbers_of, place_of}
use Rattle.pp_state.specs.declared.state.State.{State as Turn}
use Rattle.pp_store.specs.Kept.{IsExtent, Kept, KeptMap, kept_of}
use Rattle.pp_world.specs.declared.event.Event.{Event}
use Rattle.pp_world.specs.declared.event.Event.TheVariants.{Stop, Tick, Accepted, Readable, Writable, Reached, Broken}
use Rattle.pp_grown_law.specs.Less.{BringsNothing}

-- ---- what is kept

-- the chunks that are kept of an entry have 4,096 bytes, or end its body
abbrev pub KeepsWholeChunks : KeptMap → Type 0
KeepsWholeChunks shelf = (key : List ℕ) (kept : Kept) → kept_of key shelf ≡ Some kept → IsExtent kept.entry.version.length kept.extent

abbrev pub ShownChunksAreWhole : Type 0
ShownChunksAreWhole = (shelf : KeptMap) (s : State) → ShowsShelf shelf s → KeepsWholeChunks shelf

-- ---- an event

-- who is no client is an origin
abbrev pub reads_origin : Event → Turn → Bool
reads_origin Stop p = false
reads_origin (Tick seconds) p = false
reads_origin (Accepted c) p = false
reads_origin (Readable id) p = not (is_some (place_of id (numbers_of p.seats.items)))
reads_origin (Writable id) p = false
reads_origin (Reached k) p = false
reads_origin (Broken k) p = false

-- nothing is brought behind what is kept, and no more instances are noted as grown than may be
pub record GrowsFew (p q : Turn) (shelf new : KeptMap) : Type 0 where
  pub brings : BringsNothing p q shelf new
  pub few : length p.cache.grown ≤ 16 → length q.cache.grown ≤ 16

abbrev pub EventsBringNothing : Type 0
EventsBringNothing = (event : Event) (x y : Turning) → reads_origin event x.moving.desk.state ≡ false → KeepsWholeChunks x.shelf → Handles event x y → GrowsFew x.moving.desk.state y.moving.desk.state x.shelf y.shelf

-- and each entry of the shelf has the fields that are kept of them: one that cannot be read is gone
abbrev pub EventsKeepFields : Type 0
EventsKeepFields = (event : Event) (x y : Turning) → Handles event x y → EachIsAsKept x.shelf → EachIsAsKept y.shelf
