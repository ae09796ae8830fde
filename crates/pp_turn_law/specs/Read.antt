-- From the end of a turn, over its wait, to where an origin is read: nothing came yet, its connection ended or broke, or bytes came (RFC 2616,
-- sections 4.4, 6, 8.1 and 8.1.4; the order is ours).
--
-- Where the premises come from: as in Called; that the cache may have as many chunks as are set is of each wait (StandsOn of Going). Of a read that
-- brings bytes each moment has what the law alone does not give from where it begins: what is noted, what leaves memory and what is kept (MomentsNote
-- of `pp_joints_law`), and of what is dropped how much is counted (Reads of `pp_given_law`).
use Rattle.std.specs.Prelude.{◌≡◌, ◌≤◌, ◌++◌, ℕ, [], ◌∷◌, length}
use Rattle.pp_given_law.specs.MayNote.{most_names}
use Rattle.pp_comes_law.specs.Origins.{IsOfOrigin}
use Rattle.pp_desk.specs.declared.desk.Desk.{Desk}
use Rattle.pp_joints_law.specs.Behind.{MayNote}
use Rattle.pp_law.specs.State.{State}
use Rattle.pp_laws_sides.specs.Counts.{IsShortLog}
use Rattle.pp_obeys.specs.Obeys.{Life}
use Rattle.pp_proxy.specs.Awaiting.{Standing}
use Rattle.pp_proxy.specs.Moving.{Turning}
use Rattle.pp_turn_law.specs.Awaited.{awaiting}
use Rattle.pp_turn_law.specs.Called.{Calls}
use Rattle.pp_turn_law.specs.Handled.{IsHandledOn}
use Rattle.pp_world.specs.Log.{Log}
use Rattle.pp_world.specs.declared.event.Event.TheVariants.{Readable}
use Rattle.pp_world.specs.declared.event.Wants.{Wants}
use Rattle.pp_world.specs.declared.happening.Happening.TheVariants.{Waits}

-- the log is not too long with the wait, and few names are noted there
abbrev pub OriginReadsAreHandled : Type 0
OriginReadsAreHandled = (k : ℕ) (life : Life) (budget : ℕ) (log : Log) (w : Wants) (x : Standing) (f : Desk) (all : Log) (faults : ℕ) (y : Turning) (s : State) → IsOfOrigin k (awaiting x f all faults) → IsShortLog (log ++ Waits w ∷ []) → Calls life budget log w (Readable k) x f all faults y s
    → MayNote (awaiting x f all faults).moving → x.turning.moving.desk.state.cache.size ≡ s.settings.critical → length x.turning.moving.desk.state.cache.outdated ≤ most_names → IsHandledOn life budget log w (Readable k) y
