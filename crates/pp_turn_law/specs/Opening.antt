-- The first turn of a life: how often the outside failed before it, over its first wait to where its event is handled, beside a log that obeys
-- the law (ours).
--
-- StandsAtWait of Waited does not stand there: no turn ended, and the life listens yet, so that `may` of HasEnded of `pp_rounds_law` is none of
-- the law's. From where its event is handled the first turn is as each other.
--
-- Where the premises come from: BeginsWith is `ListenedOnesBegin` of `pp_joints_law`. CountsFailures is of the folder as it is opened (OpensFolder
-- of `pp_run`); GoesBy there has that no call counts down. Of the wait and the event, as in Waited and Handled.
use Rattle.std.specs.Prelude.{◌≡◌, ◌≤◌, ◌+◌, ◌++◌, ℕ, true, false, count_by, length, List, Option, Some}
use Rattle.pp_cache.specs.Bounds.{IsBounded}
use Rattle.pp_conf.specs.Conf.{Settings}
use Rattle.pp_conf.specs.Words.{file_of}
use Rattle.pp_conf.specs.declared.conf.Conf.{Conf}
use Rattle.pp_desk.specs.declared.desk.Desk.{Desk}
use Rattle.pp_events_law.specs.Stands.{come}
use Rattle.pp_joints_law.specs.Behind.{MayNote}
use Rattle.pp_joints_law.specs.Opened.{BeginsWith, HasListened, HasSettings, asked_for}
use Rattle.pp_law.specs.Lists.{Bytes}
use Rattle.pp_law.specs.Opening.{term_in, woken}
use Rattle.pp_law.specs.Phases.{ending}
use Rattle.pp_law.specs.State.{State, Term}
use Rattle.pp_obeys.specs.Failures.{fails}
use Rattle.pp_obeys.specs.Obeys.{Allows, Life}
use Rattle.pp_proxy.specs.Awaiting.{Awaits, Rests, Standing, standing}
use Rattle.pp_proxy.specs.Handling.{Handles}
use Rattle.pp_proxy.specs.Moving.{Turning}
use Rattle.pp_proxy.specs.declared.proxy.Proxy.{Proxy}
use Rattle.pp_recover.specs.Faults.{CountsFailures}
use Rattle.pp_recover.specs.Looks.{Extends}
use Rattle.pp_rounds_law.specs.Coming.{Affords}
use Rattle.pp_stays_law.specs.Turns.{StandsInTurn}
use Rattle.pp_store.specs.Kept.{KeptMap}
use Rattle.pp_turn_law.specs.Awaited.{Comes, HasComeBehind, StandsBeside, awaiting}
use Rattle.pp_turn_law.specs.Handled.{IsHandledOn}
use Rattle.pp_turn_law.specs.Waited.{HasWaitedOn}
use Rattle.pp_world.specs.Files.{Files}
use Rattle.pp_world.specs.Log.{Appends, AppendsAll, Log}
use Rattle.pp_world.specs.declared.event.Event.{Event}
use Rattle.pp_world.specs.declared.event.Wants.{Wants}
use Rattle.pp_world.specs.declared.happening.Happening.TheVariants.{Listens}

-- ---- how often the outside failed

-- as FILE is read where one is asked for, the folder is opened, and the life listens: each failure is counted
abbrev pub OpeningsAreCounted : Type 0
OpeningsAreCounted = (words : List Bytes) (text : Option Bytes) (c : Settings) (front log added : Log) (old asked opened new : Option Log) (before between after now : ℕ) → HasSettings words text c → old ≡ Some front → AppendsAll old asked (λ l. asked_for (file_of words) text) → before ≤ between
    → Extends asked opened (CountsFailures between after) → Appends opened new (λ l. Listens c.port true) → after ≤ now → new ≡ Some log → log ≡ front ++ added → before + count_by fails added ≤ now

-- so it may fail so often, where the life may have as many as are counted (Opened.`ToldLivesBegin` of `pp_joints_law`)
abbrev pub CountedOnesAreAfforded : Type 0
CountedOnesAreAfforded = (life : Life) (budget now : ℕ) (files : Files) (s : State) (added : Log) → budget ≤ (term_in s.terms).faults → life.base + count_by fails added ≤ now → now ≤ budget + life.base → Affords (woken files s) added

-- and behind them it may fail as often as is counted more
abbrev pub ListenedOnesAllow : Type 0
ListenedOnesAllow = (life : Life) (budget now : ℕ) (terms : List Term) (front log : Log) (c : Settings) (shelf : KeptMap) (given : ℕ) (files : Files) (s : State) (it : HasListened terms front c shelf given (woken files s) log) → budget ≤ (term_in s.terms).faults → life.base + count_by fails it.added ≤ now
    → Allows life budget now it.comes.then

-- ---- at the first wait

-- the proxy as it is opened, where this log is told and so much is counted
abbrev pub opened_at : Proxy → KeptMap → ℕ → Log → ℕ → Standing
opened_at p shelf top log faults = standing shelf p top (Some log) faults

-- what a turn carries through its decisions stands
abbrev pub FirstOnesStandInTurn : Type 0
FirstOnesStandInTurn = (life : Life) (budget : ℕ) (log : Log) (conf : Conf) (p : Proxy) (shelf : KeptMap) (top : ℕ) (s : State) → BeginsWith (life.terms budget) log conf p shelf top s → StandsInTurn shelf p.desk.state (ending s)

-- the wait comes, an event is awaited, and all that is carried stands there
abbrev pub FirstTurnsWait : Type 0
FirstTurnsWait = (life : Life) (budget : ℕ) (log : Log) (conf : Conf) (p : Proxy) (shelf : KeptMap) (top faults : ℕ) (s : State) (number : ℕ → ℕ) (w : Wants) (clients : ℕ) (e f : Desk) → BeginsWith (life.terms budget) log conf p shelf top s → length p.desk.state.name.items ≤ 64 → Awaits p.wants.read.items w clients p.desk e → Rests w clients e f
    → HasWaitedOn life budget log (opened_at p shelf top log faults) w clients f number s

-- what is read into is there, no connection is open, and names may be noted
pub record IsAlone (x : Standing) (f : Desk) (y : Turning) : Type 0 where
  pub beside : StandsBeside x f
  pub notes : MayNote y.moving

abbrev pub FirstOnesAreAlone : Type 0
FirstOnesAreAlone = (life : Life) (budget : ℕ) (log all : Log) (conf : Conf) (p : Proxy) (shelf : KeptMap) (top faults now : ℕ) (s : State) (w : Wants) (clients : ℕ) (e f : Desk) → BeginsWith (life.terms budget) log conf p shelf top s → Awaits p.wants.read.items w clients p.desk e → Rests w clients e f
    → IsAlone (opened_at p shelf top log faults) f (awaiting (opened_at p shelf top log faults) f all now)

-- ---- its event

-- the outside failed no more often than it says
pub record BeginsTurns (life : Life) (budget : ℕ) (log : Log) (conf : Conf) (p : Proxy) (shelf : KeptMap) (top faults : ℕ) (w : Wants) (event : Event) (f : Desk) (all : Log) (now : ℕ) (y : Turning) (s : State) : Type 0 where
  pub begins : BeginsWith (life.terms budget) log conf p shelf top s
  -- by its type
  pub name : length p.desk.state.name.items ≤ 64
  pub allows : Allows life budget faults s
  pub clients : ℕ
  pub awaiting : Desk
  pub awaits : Awaits p.wants.read.items w clients p.desk awaiting
  pub rests : Rests w clients awaiting f
  pub comes : Comes w event (opened_at p shelf top log faults) all
  pub counted : faults ≤ now
  pub bounded : IsBounded y.moving.desk.state.cache
  pub straight : y.moving.desk.state.is_astray ≡ false

-- it comes, and all stands that an event rests on
abbrev pub FirstEventsAreAwaited : Type 0
FirstEventsAreAwaited = (life : Life) (budget : ℕ) (log : Log) (conf : Conf) (p : Proxy) (shelf : KeptMap) (top faults : ℕ) (w : Wants) (event : Event) (f : Desk) (all : Log) (now : ℕ) (y : Turning) (s : State) (number : ℕ → ℕ) → BeginsTurns life budget log conf p shelf top faults w event f all now y s
    → HasComeBehind life budget log number w event (opened_at p shelf top log faults) f all now s

-- whatever comes is handled: nobody is there who could be read or written to
abbrev pub FirstEventsAreHandled : Type 0
FirstEventsAreHandled = (event : Event) (life : Life) (budget : ℕ) (log : Log) (conf : Conf) (p : Proxy) (shelf : KeptMap) (top faults : ℕ) (w : Wants) (f : Desk) (all : Log) (now : ℕ) (y : Turning) (s : State) → BeginsTurns life budget log conf p shelf top faults w event f all now y s
    → Handles event (come event (awaiting (opened_at p shelf top log faults) f all now)) y → IsHandledOn life budget log w event y
