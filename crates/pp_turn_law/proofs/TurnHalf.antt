-- A turn from its wait up to where all is kept, wherever its wait was.
use Rattle.std.proofs.Common.{◌≡◌, ◌≤◌, ◌<◌, subst, ap, ◌∙◌, ℕ, ◌+◌, false, length, [], ◌∷◌, ◌++◌, Option, Some, le_trans, arith}
use Rattle.std.specs.Prelude.{count_by, take, vec_capacity}
use Rattle.pp_cache.specs.Bounds.{IsBounded}
use Rattle.pp_desk.specs.declared.desk.Desk.{Desk}
use Rattle.pp_events_law.specs.Stands.{come}
use Rattle.pp_given_law.specs.Apart.{AreClients}
use Rattle.pp_grown_law.proofs.Grown.{waits_leave}
use Rattle.pp_grown_law.proofs.Reading.{handlings_note}
use Rattle.pp_grown_law.specs.Grown.{HasNothingToKeep}
use Rattle.pp_grown_law.specs.Reads.{StandsToGrow}
use Rattle.pp_joints_law.specs.BehindReads.{IsTold}
use Rattle.pp_joints_law.specs.Keeping.{kept_in}
use Rattle.pp_keeps_law.proofs.AllKept.{keepings_lead_on}
use Rattle.pp_law.specs.Phases.{ending}
use Rattle.pp_law.specs.State.{State}
use Rattle.pp_laws_sides.specs.Counts.{IsShortLog}
use Rattle.pp_links.specs.Links.{IsLinked}
use Rattle.pp_obeys.proofs.Frames.{Frame}
use Rattle.pp_obeys.proofs.StaysTurns.{ending-frame}
use Rattle.pp_obeys.specs.Failures.{fails}
use Rattle.pp_obeys.specs.Obeys.{Life}
use Rattle.pp_proxy.specs.Awaiting.{ComesTo, HasCome, Standing, TurnsOn, behind}
use Rattle.pp_proxy.specs.Handling.{Handles}
use Rattle.pp_proxy.specs.Leaving.{Leaves}
use Rattle.pp_proxy.specs.Moving.{LeadsOn, Turning, at_desk}
use Rattle.pp_proxy.specs.Settling.{Settles}
use Rattle.pp_proxy.specs.declared.proxy.Turn.{Turn as Result}
use Rattle.pp_reads_law.specs.Keys.{HasRoomForData}
use Rattle.pp_world.specs.Log.{AppendsAll, Log}
use Rattle.pp_world.specs.Wire.{wait_happenings}
use Rattle.pp_world.specs.declared.event.Event.{Event}
use Rattle.pp_world.specs.declared.event.Event.TheVariants.{Accepted, Broken, Readable, Reached, Stop, Tick, Writable}
use Rattle.pp_world.specs.declared.event.Wants.{Wants}
use Rattle.pp_world.specs.declared.happening.Happening.TheVariants.{Waits}
use Rattle.pp_turn_law.proofs.DeskLeft.{events_left}
use Rattle.pp_turn_law.proofs.DeskOn.{waits_set}
use Rattle.pp_turn_law.proofs.Grown.{awaited_grow}
use Rattle.pp_turn_law.proofs.HandledFrom.{come_from}
use Rattle.pp_turn_law.proofs.NextWait.{wait_reads}
use Rattle.pp_turn_law.proofs.Order.{waited}
use Rattle.pp_turn_law.proofs.OrderTurns.{were_straight}
use Rattle.pp_turn_law.proofs.Serves.{fewer}
use Rattle.pp_turn_law.proofs.ToldBack.{handled_back}
use Rattle.pp_turn_law.proofs.TurnLogs.{LoggedBehind, short_front, turn_logs}
use Rattle.pp_turn_law.proofs.Waited.{turns_wait}
use Rattle.pp_turn_law.specs.Awaited.{Comes, StandsBeside, awaiting}
use Rattle.pp_turn_law.specs.Going.{IsTaken, StandsOn}
use Rattle.pp_turn_law.specs.Handled.{Turns}
use Rattle.pp_turn_law.specs.Kept.{LeavesAndKeeps}
use Rattle.pp_turn_law.specs.Ordered.{StandsOrdered}
use Rattle.pp_turn_law.specs.Served.{ServesOn, most_happenings}
use Rattle.pp_turn_law.specs.Straight.{IsStraight, WasStraight}
use Rattle.pp_turn_law.specs.Waited.{HasWaitedOn}

-- no event changes the file that entries are laid out in
file_left : (event : Event) (x y : Turning) → HasRoomForData x → Handles event x y → y.moving.desk.file ≡ x.moving.desk.file
file_left Stop x y room handles = ap (λ (d : Desk). d.file) handles.0.rest
file_left (Tick seconds) x y room handles = (events_left (Tick seconds) x y (λ is. absurd (cc is)) room handles).file
file_left (Accepted c) x y room handles = (events_left (Accepted c) x y (λ is. absurd (cc is)) room handles).file
file_left (Readable id) x y room handles = (events_left (Readable id) x y (λ is. absurd (cc is)) room handles).file
file_left (Writable id) x y room handles = (events_left (Writable id) x y (λ is. absurd (cc is)) room handles).file
file_left (Reached k) x y room handles = (events_left (Reached k) x y (λ is. absurd (cc is)) room handles).file
file_left (Broken k) x y room handles = (events_left (Broken k) x y (λ is. absurd (cc is)) room handles).file

-- ---- what stands at its wait, and where its event is handled

pub record HasTaken (w : Wants) (event : Event) (x : Standing) (f : Desk) (all : Log) (faults : ℕ) (h : Turning) : Type 0 where
  pub beside : StandsBeside x f
  pub comes : Comes w event x all
  pub counted : x.turning.faults ≤ faults
  pub bounded : IsBounded h.moving.desk.state.cache
  pub straight : IsStraight h
  pub handles : Handles event (come event (awaiting x f all faults)) h
  pub told : IsTold h
  pub linked : IsLinked h.log h.moving.top h.moving.links

-- what a turn goes over, wherever its wait was
pub record StandsOver (life : Life) (budget : ℕ) (log : Log) (x : Standing) (s : State) (number : ℕ → ℕ) (w : Wants) (clients : ℕ) (f : Desk) (its : Option Event) : Type 0 where
  pub log_is : x.turning.log ≡ Some log
  pub waited : HasWaitedOn life budget log x w clients f number s
  pub ordered : StandsOrdered x.turning.moving
  pub buffer : length x.turning.moving.desk.buffer.items ≡ 32768
  pub holds : 32768 ≤ vec_capacity x.turning.moving.desk.«data»
  pub file : length x.turning.moving.desk.file.items ≡ 286720
  pub going : x.turning.moving.desk.state.is_stopped ≡ false
  pub nothing : HasNothingToKeep x.turning.moving.desk.state x.turning.shelf
  -- its event is taken
  pub handled : (event : Event) → its ≡ Some event → (all : Log) (faults : ℕ) (h : Turning) → HasTaken w event x f all faults h → IsShortLog (log ++ Waits w ∷ []) → h.faults ≤ budget + life.base → IsTaken life budget log w event h
  -- those that are read
  pub read : AreClients (take clients w.read.items) f

fewer_then : (a b c d most : ℕ) → a + b ≤ c → c ≤ d → d ≤ most → a ≤ most
fewer_then a b c d most one two three = omega (arith, one, two, three)

-- its pieces, and what the log has there
pub record HasTurned (life : Life) (budget : ℕ) (log : Log) (w : Wants) (event : Event) (x : Standing) (f : Desk) (y : Turning) : Type 0 where
  pub all : Log
  pub faults : ℕ
  pub handled : Turning
  pub kept : Turning
  pub taken : HasTaken w event x f all faults handled
  pub on : IsTaken life budget log w event handled
  pub room : HasRoomForData (come event (awaiting x f all faults))
  pub keeps : LeavesAndKeeps handled kept
  pub kept_log : (l : Log) × (kept.log ≡ Some l)
  pub few : kept.faults ≤ budget + life.base
  pub straight : IsStraight kept
  pub ordered : StandsOrdered kept.moving
  pub serves : ServesOn kept y

module _ (life : Life) (budget : ℕ) (log after : Log) (result : Result) (x y : Standing) (s : State) (number : ℕ → ℕ) (turns : TurnsOn result x y) (st : StandsOver life budget log x s number turns.wants turns.clients turns.rested turns.event) (well : IsStraight y.turning) (told : y.turning.log ≡ Some after)
    (few : y.turning.faults ≤ budget + life.base) (brief : length after < most_happenings) (event : Event) (is : turns.event ≡ Some event) where
  abbrev w : Wants
  w = turns.wants

  abbrev f : Desk
  f = turns.rested

  abbrev here : Turning
  here = at_desk f x.turning

  came : HasCome w event here y.turning
  came = subst (λ (o : Option Event). ComesTo w o here y.turning) is turns.comes

  ordered_here : StandsOrdered here.moving
  ordered_here = waited x.read w turns.clients x.turning.moving turns.awaiting f turns.awaits turns.rests st.ordered

  was : WasStraight event (behind event came.log came.faults here) y.turning came.takes
  was = were_straight event came.log came.faults here y.turning came.number ordered_here came.takes well

  -- ---- its pieces

  abbrev h : Turning
  h = came.takes.handled

  abbrev k : Turning
  k = came.takes.kept

  handles : Handles event (behind event came.log came.faults here) h
  handles = came.takes.handles ordered_here.seated

  leaves : LeadsOn Leaves h.moving came.takes.left.moving h.log came.takes.left.log h.faults came.takes.left.faults
  leaves = came.takes.leaves was.ordered_handled.seated

  settles : LeadsOn (Settles k.shelf) k.moving y.turning.moving k.log y.turning.log k.faults y.turning.faults
  settles = came.takes.settles was.ordered_kept.seated

  -- ---- the log, from its end back

  kept_log : (l : Log) × (k.log ≡ Some l) × (after ≡ l ++ settles.added)
  kept_log = settles.told.was after told

  file : length came.takes.left.moving.desk.file.items ≡ 286720
  file =
      ap (λ (d : Desk). length d.file.items) leaves.is.gives.rest ∙ ap (λ (d : Desk). length d.file.items) leaves.is.leaves.rest ∙ ap (λ (d : Desk). length d.file.items) leaves.is.regains.rest
      ∙ ap (λ v. length v.items) (file_left event (behind event came.log came.faults here) h ordered_here.room handles) ∙ ap (λ (d : Desk). length d.file.items) turns.rests.rest
      ∙ ap (λ (d : Desk). length d.file.items) turns.awaits.rest ∙ st.file

  left_log : (l : Log) × (came.takes.left.log ≡ Some l)
  left_log =
      let back = (keepings_lead_on (length came.takes.left.moving.desk.file.items) (kept_in came.takes.left) (kept_in k) (omega (arith, file)) came.takes.keeps.is).was kept_log.0 kept_log.1 in
      (back.0, back.2)

  handled_log : (l : Log) × (h.log ≡ Some l)
  handled_log = let back = leaves.told.was left_log.0 left_log.1 in (back.0, back.1)

  came_log : (l : Log) × (came.log ≡ Some l)
  came_log = handled_back event (behind event came.log came.faults here) h ordered_here.room handles handled_log.0 handled_log.1

  abbrev all : Log
  all = came_log.0

  -- ---- where it is handled

  comes : Comes w event x all
  comes = record { wanted = came.wanted; dialled = came.dialled; numbered = came.number; told = subst (λ (o : Option Log). AppendsAll x.turning.log o (λ l. wait_happenings w event)) came_log.1 came.told }

  beside : StandsBeside x f
  beside = record {
    buffer = ap (λ (d : Desk). length d.buffer.items) turns.rests.rest ∙ ap (λ (d : Desk). length d.buffer.items) turns.awaits.rest ∙ st.buffer;
    holds = le_trans st.holds (waits_set x.read w turns.clients x.turning.moving.desk turns.awaiting f turns.awaits turns.rests).room;
    linked = turns.linked;
  }

  handles_there : Handles event (come event (awaiting x f all came.faults)) h
  handles_there = subst (λ (o : Option Log). Handles event (behind event o came.faults here) h) came_log.1 handles

  taken : HasTaken w event x f all came.faults h
  taken = record {
    beside = beside;
    comes = comes;
    counted = came.count;
    bounded = came.takes.handled_bounded;
    straight = was.handled;
    handles = handles_there;
    told = record { log = handled_log.0; told = handled_log.1 };
    linked = came.takes.handled_linked;
  }

  -- ---- memory, and the disk

  grows : StandsToGrow (awaiting x f all came.faults)
  grows = awaited_grow (life.terms budget) (log ++ Waits w ∷ []) number w (awaiting x f all came.faults) (ending s) (come_from life budget log w event x f all came.faults s number turns.clients st.log_is st.waited beside comes).stands st.waited.carried

  keeps : LeavesAndKeeps h k
  keeps = record {
    left = came.takes.left;
    leaves = leaves;
    shelf = came.takes.leaves_shelf;
    bounded = came.takes.left_bounded;
    keeps = came.takes.keeps;
    grown = handlings_note event (come event (awaiting x f all came.faults)) h (record { bounded = grows.bounded; numbered = grows.numbered; short = grows.short; room = grows.room; whole = grows.whole }) handles_there
        (waits_leave x.turning.shelf x.read w turns.clients x.turning.moving.desk turns.awaiting f turns.awaits turns.rests st.nothing);
  }

  counted : k.faults + count_by fails settles.added ≤ y.turning.faults
  counted = settles.counted.at after told

  few_kept : k.faults ≤ budget + life.base
  few_kept = fewer k.faults (count_by fails settles.added) y.turning.faults budget life.base counted few

  few_handled : h.faults ≤ budget + life.base
  few_handled = fewer_then h.faults (count_by fails leaves.added) came.takes.left.faults k.faults (budget + life.base) (leaves.counted.at left_log.0 left_log.1) came.takes.keeps.count few_kept

  -- ---- what the log got

  behind_wait : LoggedBehind log w after
  behind_wait = turn_logs w event here y.turning log after st.log_is came told

  short : IsShortLog (log ++ Waits w ∷ [])
  short = short_front (log ++ Waits w ∷ []) behind_wait.added after behind_wait.is brief

  pub turned : HasTurned life budget log w event x f y.turning
  turned = record {
    all = all;
    faults = came.faults;
    handled = h;
    kept = k;
    taken = taken;
    on = st.handled event is all came.faults h taken short few_handled;
    room = ordered_here.room;
    keeps = keeps;
    kept_log = (kept_log.0, kept_log.1);
    few = few_kept;
    straight = was.kept;
    ordered = was.ordered_kept;
    serves = record { settles = settles; shelf = came.takes.settles_shelf; bounded = came.takes.bounded; straight = well };
  }

-- ---- where a turn waits as from one wait to the next

pub turns_taken : (life : Life) (budget : ℕ) (log : Log) (result : Result) (x y : Standing) (s : State) → StandsOn life budget log x s → (turns : TurnsOn result x y) (event : Event) (all : Log) (faults : ℕ) (h : Turning) → HasTaken turns.wants event x turns.rested all faults h
    → Turns life budget log turns.wants event x turns.rested all faults h s
turns_taken life budget log result x y s st turns event now faults h it = record {
  stands = st.wait;
  clients = turns.clients;
  awaiting = turns.awaiting;
  awaits = turns.awaits;
  rests = turns.rests;
  beside = it.beside;
  comes = it.comes;
  counted = it.counted;
  bounded = it.bounded;
  straight = it.straight;
}

pub stands_over : (life : Life) (budget : ℕ) (log : Log) (result : Result) (x y : Standing) (s : State) (st : StandsOn life budget log x s) (turns : TurnsOn result x y) → ((event : Event) → turns.event ≡ Some event → (all : Log) (faults : ℕ) (h : Turning) → HasTaken turns.wants event x turns.rested all faults h → IsShortLog (log ++ Waits turns.wants ∷ []) → h.faults ≤ budget + life.base → IsTaken life budget log turns.wants event h)
    → StandsOver life budget log x s st.wait.number turns.wants turns.clients turns.rested turns.event
stands_over life budget log result x y s st turns handled = record {
  log_is = st.wait.told;
  waited = turns_wait life budget log x turns.wants turns.clients turns.awaiting turns.rested s st.wait turns.awaits turns.rests;
  ordered = st.ordered;
  buffer = st.buffer;
  holds = st.holds;
  file = st.wait.carried.set.file;
  going = st.wait.ended.turn.stopped ∙ ap (λ (g : Frame). g.is_stopped) (ending-frame false s) ∙ st.wait.going;
  nothing = st.nothing;
  handled = handled;
  read = wait_reads life budget log x turns.wants turns.clients turns.awaiting turns.rested s st.wait turns.awaits turns.rests;
}
