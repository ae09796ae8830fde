-- Each entry of the shelf has the fields that are kept of them, behind all that is taken away and kept in a turn (RFC 2616, sections 10.3.5,
-- 13.5.1 and 14.18). What is drafted of a row has the fields of that row.
use Rattle.std.specs.Prelude.{◌≡◌, ℕ, List, Some}
use Rattle.pp_cache_law.specs.Kept.{AreKept}
use Rattle.pp_keeping.specs.Keeping.{KeepsAll, Keeping as Kept}
use Rattle.pp_keeps_law.specs.Stands.{StandsToKeep}
use Rattle.pp_law.specs.State.{State}
use Rattle.pp_objects.specs.Instances.{Instance}
use Rattle.pp_objects.specs.declared.id.ObjectId.{ObjectId}
use Rattle.pp_shelf_law.specs.AsKept.{EachIsAsKept}
use Rattle.pp_state.specs.Bringing.{instance_of}

-- each instance that is there has the fields that are kept of it
abbrev pub RowsAreKept : List Instance → Type 0
RowsAreKept is = (id : ObjectId) (i : Instance) → instance_of id is ≡ Some i → AreKept i.fields i.times

-- as the turn stands where its keeping begins
abbrev pub KeptStaysAsKept : Type 0
KeptStaysAsKept = (number : ℕ → ℕ) (room : ℕ) (x y : Kept) (s : State) → StandsToKeep number x.state x.outside.shelf s → EachIsAsKept x.outside.shelf → KeepsAll room x y → EachIsAsKept y.outside.shelf
