-- Before and behind the disk: where nothing is left to leave memory the turn may keep what came, and then decisions come (ours).
use Rattle.std.specs.Prelude.{◌≡◌, ℕ, List, None}
use Rattle.pp_cache_law.specs.Kept.{AreAsKept}
use Rattle.pp_evicting_law.specs.Evicting.{StandsBehind}
use Rattle.pp_flow_law.specs.Tables.{none_leaves}
use Rattle.pp_joints_law.specs.Carried.{IsCarried}
use Rattle.pp_keeping.specs.Keeping.{Keeping as Kept, keeping}
use Rattle.pp_keeps_law.specs.All.{IsDoneWith}
use Rattle.pp_keeps_law.specs.Stands.{StandsToKeep}
use Rattle.pp_law.specs.Phases.{in_phase}
use Rattle.pp_law.specs.State.{State, Term, Deciding}
use Rattle.pp_obeys.specs.Obeys.{Obeys}
use Rattle.pp_proxy.specs.Events.{Keeps}
use Rattle.pp_proxy.specs.Moving.{Moving, Turning}
use Rattle.pp_shelf_law.specs.AsKept.{EachIsAsKept}
use Rattle.pp_store.specs.Kept.{KeptMap}
use Rattle.pp_turns_law.specs.Firsts.{AreAwake}
use Rattle.pp_turns_law.specs.Rows.{AllAreKept, AreReady}
use Rattle.pp_turns_law.specs.Turns.{ShowsTurn}
use Rattle.pp_world.specs.Log.{Log}

-- ---- before

-- it stands there, beside a log that obeys the law: of each key there is one row (RowsStandAlone of `pp_shelf_law`), and the fields of each are
-- those that are kept (`pp_laws_fields`)
abbrev pub TurnsStandToKeep : Type 0
TurnsStandToKeep = (terms : List Term) (log : Log) (number : ℕ → ℕ) (shelf : KeptMap) (x : Moving) (s : State) → Obeys terms s log → StandsBehind number x s → IsCarried shelf x s → StandsToKeep number x.desk.state shelf s

-- ---- behind

-- what `keep` of pp_keeping works on
abbrev pub kept_in : Turning → Kept
kept_in x = keeping x.moving.desk.state x.shelf x.log x.faults

abbrev pub deciding : State → State
deciding t = in_phase Deciding t

-- the turn stands where decisions come next, and what is carried stands too
pub record HasBeenKept (number : ℕ → ℕ) (y : Turning) (s : State) : Type 0 where
  pub at : s.phase ≡ Deciding
  pub none : s.made_room_for ≡ None
  pub turn : ShowsTurn number none_leaves y.moving.desk.peers y.moving.desk.state s
  pub ready : AreReady number y.moving.desk.state.cache s.next_instance y.moving.desk.state.seats.items
  pub awake : AreAwake y.moving.desk.state
  -- what is kept of each key is the law's (`pp_kept_law`), in the fields that are kept
  pub disk : AllAreKept y.shelf y.moving.desk.state.cache s
  pub kept : AreAsKept y.shelf
  pub carried : IsCarried y.shelf y.moving s

-- where KeepingsLeadOn of `pp_keeps_law` leads; the next phase is that of decisions. That the shelf has the fields that are kept of them is so
-- behind each of its steps (AsKept of `pp_shelf_law`)
abbrev pub KeepingsCarry : Type 0
KeepingsCarry = (number : ℕ → ℕ) (x y : Turning) (s t : State) → StandsBehind number x.moving s → IsCarried x.shelf x.moving s → Keeps x y → IsDoneWith number (kept_in x) (kept_in y) s t → EachIsAsKept y.shelf → HasBeenKept number y (deciding t)
