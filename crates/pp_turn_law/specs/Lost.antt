-- From a client that was to be written to, and whose chunk could not be read back, over the disk to where decisions come next, beside a log that
-- obeys the law (ours).
--
-- Where the premises come from: Called has IsLostOn there. The law is at the disk already, as nothing has to leave memory; what memory and disk
-- do is TakesEvent of `pp_proxy`, as in Kept.
use Rattle.std.specs.Prelude.{◌≡◌, ◌≤◌, ◌+◌, ℕ, Some}
use Rattle.pp_events_law.specs.Losses.{at_disk}
use Rattle.pp_obeys.specs.Obeys.{Life}
use Rattle.pp_proxy.specs.Moving.{Turning}
use Rattle.pp_turn_law.specs.Called.{IsLostOn, lost_log}
use Rattle.pp_turn_law.specs.Kept.{HasGoneToDecide, LeavesAndKeeps}
use Rattle.pp_world.specs.Log.{Log}
use Rattle.pp_world.specs.declared.event.Wants.{Wants}

-- the log is told behind it, and the outside failed no more often than the life may have
abbrev pub LostOnesGoToDecide : Type 0
LostOnesGoToDecide = (life : Life) (budget : ℕ) (log after : Log) (w : Wants) (id : ℕ) (x y : Turning) (lost : IsLostOn life budget log w id x) → LeavesAndKeeps x y → y.log ≡ Some after → y.faults ≤ budget + life.base → HasGoneToDecide life budget (lost_log log w id lost.key) x y (at_disk lost.then)
