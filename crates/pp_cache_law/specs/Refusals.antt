-- Memory was refused for the row that a response brings.
use Rattle.std.specs.Prelude.{◌≤◌, List}
use Rattle.pp_cache.specs.Memory.{retired_at}
use Rattle.pp_fresh.specs.declared.aging.Times.{Times}
use Rattle.pp_law.specs.Lists.{Bytes}
use Rattle.pp_law.specs.Table.{forget, make_row, rows}
use Rattle.pp_objects.specs.declared.id.ObjectId.{ObjectId}
use Rattle.pp_text.specs.Fields.{Field}
use Rattle.pp_valid.specs.declared.version.Version.{Version}
use Rattle.pp_cache_law.specs.Reads.{AreBusy}
use Rattle.pp_cache_law.specs.Rooms.{with_room}
use Rattle.pp_cache_law.specs.Tables.{OfCaches, ShowsCache}

-- the law makes it, and forgets it where that is noted; the program gives it no life, and its former row is not known any more. The
-- number of the row is passed over, so that from here on lives and numbers part
abbrev pub RefusalsAreTheLaws : Type 0
RefusalsAreTheLaws = OfCaches (λ number m s. (busy : List ObjectId) (key : Bytes) (version : Version) (fields : List Field) (times : Times) → rows s ≤ 1024 → AreBusy number m s busy
    → ShowsCache number (retired_at key (with_room key busy m)) (forget s.next_instance (make_row key version fields times s)))
