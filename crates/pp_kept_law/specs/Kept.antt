-- What is kept of each key, and may come in, is the law's (ours). The shelf shows the law's entries, and the cache notes by their names
-- those that stand no more.
use Rattle.std.specs.Prelude.{◌≡◌, false}
use Rattle.std.specs.List.{list_any}
use Rattle.pp_cache.specs.Memory.{Memory}
use Rattle.pp_cache_law.specs.Outdated.{AreNoted}
use Rattle.pp_cache_law.specs.Tables.{OfTables}
use Rattle.pp_law.specs.State.{State}
use Rattle.pp_law.specs.Store.{is_closed}
use Rattle.pp_shelf_law.specs.Shelf.{ShowsShelf}
use Rattle.pp_store.specs.Kept.{KeptMap}
use Rattle.pp_turns_law.specs.Rows.{AllAreKept, ShowsKept}

-- of each key, where no entry has a closed name: what failed was noted, and its entry is out
abbrev pub KeptOnesMayComeIn : Type 0
KeptOnesMayComeIn = (shelf : KeptMap) (m : Memory) (s : State) → ShowsShelf shelf s → AreNoted m.outdated s.displaced s.entries → list_any (λ e. is_closed s e.name) s.entries ≡ false → AllAreKept shelf m s

-- and so of each of which no row is in memory
abbrev pub KeptAloneMayComeIn : Type 0
KeptAloneMayComeIn = OfTables (λ number m s. (shelf : KeptMap) → AllAreKept shelf m s → ShowsKept shelf m s)

-- and the other way round: which stand no more is noted, where what may come in is the law's
abbrev pub KeptOnesAreNoted : Type 0
KeptOnesAreNoted = (shelf : KeptMap) (m : Memory) (s : State) → ShowsShelf shelf s → list_any (λ e. is_closed s e.name) s.entries ≡ false → AllAreKept shelf m s → AreNoted m.outdated s.displaced s.entries
