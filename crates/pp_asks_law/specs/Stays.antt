-- Through the steps of a round memory is refused for no row (ours), and that the shelf shows the law's entries stays, as nothing that happens is of
-- the disk (`pp_laws_quiet`). So what followers and dials rest on stays.
use Rattle.std.specs.Prelude.{ℕ}
use Rattle.pp_asks_law.specs.Rests.{NoneIsRefused}
use Rattle.pp_law.specs.Phases.{next}
use Rattle.pp_law.specs.State.{State}
use Rattle.pp_obeys.specs.Moves.{Leads}
use Rattle.pp_proxy.specs.Closing.{ClosesOver}
use Rattle.pp_proxy.specs.Moving.{Moving}
use Rattle.pp_proxy.specs.Rounds.{Places}
use Rattle.pp_rounds_law.specs.Stands.{StandsAmid}
use Rattle.pp_rounds_law.specs.Supplies.{followed}
use Rattle.pp_store.specs.Kept.{KeptMap}
use Rattle.pp_world.specs.Log.{Log}

-- what nobody sees is dropped, asks that bring nothing are given up, and followers ask
abbrev pub SilentStepsRefuseNone : Type 0
SilentStepsRefuseNone = (number : ℕ → ℕ) (shelf : KeptMap) (x y : Moving) (s : State) → StandsAmid number shelf x s → NoneIsRefused x.desk.state.seats.items → StandsAmid number shelf y (followed s) → NoneIsRefused y.desk.state.seats.items

-- connections that are over are closed
abbrev pub ClosingsRefuseNone : Type 0
ClosingsRefuseNone = (number : ℕ → ℕ) (shelf : KeptMap) (x y : Moving) (log : Log) (s t : State) → StandsAmid number shelf x s → NoneIsRefused x.desk.state.seats.items → ClosesOver x log y → Leads log s t → StandsAmid number shelf y t
    → NoneIsRefused y.desk.state.seats.items

-- and exchanges get their places
abbrev pub PlacesRefuseNone : Type 0
PlacesRefuseNone = (number : ℕ → ℕ) (shelf : KeptMap) (x y : Moving) (log : Log) (s t : State) → StandsAmid number shelf x s → NoneIsRefused x.desk.state.seats.items → Places x log y → Leads log s t → StandsAmid number shelf y (next t)
    → NoneIsRefused y.desk.state.seats.items
