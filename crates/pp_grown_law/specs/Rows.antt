-- A row that comes in has nothing to keep, and one that is not known any more has nothing to keep either (ours).
use Rattle.std.specs.Prelude.{◌≡◌, ℕ, false, List}
use Rattle.pp_cache.specs.Memory.{is_in_memory, retired_at, with_row}
use Rattle.pp_fresh.specs.declared.aging.Times.{Times}
use Rattle.pp_keeping.specs.Keeping.{with_memory}
use Rattle.pp_law.specs.Lists.{Bytes}
use Rattle.pp_objects.specs.declared.id.ObjectId.{ObjectId}
use Rattle.pp_state.specs.declared.state.State.{State as Turn}
use Rattle.pp_store.specs.Kept.{KeptMap}
use Rattle.pp_text.specs.Fields.{Field}
use Rattle.pp_valid.specs.declared.version.Version.{Version}
use Rattle.pp_grown_law.specs.Less.{BringsNothing}

abbrev pub RetiringsBringNothing : Type 0
RetiringsBringNothing = (p : Turn) (key : Bytes) (shelf : KeptMap) → BringsNothing p (with_memory (retired_at key p.cache) p) shelf shelf

-- in a slot of which nothing is in memory
abbrev pub RowsBringNothing : Type 0
RowsBringNothing = (p : Turn) (id : ObjectId) (key : Bytes) (version : Version) (fields : List Field) (times : Times) (shelf : KeptMap) → ((o : ℕ) → is_in_memory id.slot o p.cache.chunks ≡ false) → BringsNothing p (with_memory (with_row id key version fields times p.cache) p) shelf shelf
