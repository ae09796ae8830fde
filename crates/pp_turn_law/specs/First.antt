-- The first turn of a life goes on to its second wait, where it stands as at each other, beside a log that obeys the law (ours).
--
-- Where the premises come from: BeginsWith and what the life may have as in Opening; what a turn does is TurnsOn of `pp_proxy`. Nobody is there
-- who could be read or written to, so that no event is asked to be handled, as in Going. How many chunks the cache may have is of the settings that
-- words and text gave.
use Rattle.std.specs.Prelude.{◌≡◌, ◌≤◌, ◌<◌, ◌+◌, ℕ, length, List, Option, Some}
use Rattle.pp_conf.specs.Shown.{shown_conf}
use Rattle.pp_conf.specs.declared.conf.Conf.{Conf}
use Rattle.pp_joints_law.specs.Opened.{BeginsWith, HasSettings}
use Rattle.pp_law.specs.Lists.{Bytes}
use Rattle.pp_law.specs.State.{State, Term}
use Rattle.pp_obeys.specs.Obeys.{Allows, Life}
use Rattle.pp_proxy.specs.Awaiting.{Standing, TurnsOn}
use Rattle.pp_proxy.specs.declared.proxy.Proxy.{Proxy}
use Rattle.pp_proxy.specs.declared.proxy.Turn.TheVariants.{Went}
use Rattle.pp_store.specs.Kept.{KeptMap}
use Rattle.pp_turn_law.specs.Going.{GoesOnTo}
use Rattle.pp_turn_law.specs.Opening.{opened_at}
use Rattle.pp_turn_law.specs.Served.{most_happenings}
use Rattle.pp_turn_law.specs.Straight.{IsStraight}
use Rattle.pp_world.specs.Log.{Log}

-- the cache may have as many chunks as are set, from 512 to 65,536
abbrev pub OpenedOnesAreSized : Type 0
OpenedOnesAreSized = (terms : List Term) (words : List Bytes) (text : Option Bytes) (log : Log) (conf : Conf) (p : Proxy) (shelf : KeptMap) (top : ℕ) (s : State) → HasSettings words text (shown_conf conf) → BeginsWith terms log conf p shelf top s → p.desk.state.cache.size ≡ s.settings.critical

-- whatever comes first: where the log is told behind the turn, this life did not go astray by it, and the outside failed no more often than the
-- life may have; the name is as short as by its type, and the cache may have as many chunks as are set
abbrev pub FirstTurnsGoOn : Type 0
FirstTurnsGoOn = (life : Life) (budget : ℕ) (log after : Log) (conf : Conf) (p : Proxy) (shelf : KeptMap) (top faults : ℕ) (y : Standing) (s : State) → BeginsWith (life.terms budget) log conf p shelf top s → length p.desk.state.name.items ≤ 64 → p.desk.state.cache.size ≡ s.settings.critical → Allows life budget faults s → TurnsOn Went (opened_at p shelf top log faults) y → IsStraight y.turning → y.turning.log ≡ Some after
    → y.turning.faults ≤ budget + life.base → length after < most_happenings → GoesOnTo life budget log y
