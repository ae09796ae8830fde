-- Where the read of an origin that brings bytes begins, behind a wait: what all its moments rest on is there (ours), as ReadsNoteAll has it.
--
-- Where the premises come from: at most 768 names are noted where an event is awaited (`most_names` and RowsMayBeNoted of `pp_given_law`).
--
-- How eviction stands in both begins with how many chunks a turn leaves. Where the trigger was reached in it those are no more than the floor says, or
-- those that are pinned, 320 at most (`pp_laws_bounds`), and each mark is 512 at least; and where it was not, fewer than the trigger says. Where the low
-- mark is the high one as many may be left as the trigger says, and eviction has not begun.
use Rattle.std.specs.Prelude.{◌≡◌, ◌≤◌, ◌<◌, ◌⊎◌, ℕ, List, length}
use Rattle.pp_desk.specs.declared.desk.Desk.{Desk}
use Rattle.pp_joints_law.specs.Behind.{StandsBefore}
use Rattle.pp_joints_law.specs.ReadsNoteAll.{MayNoteAll}
use Rattle.pp_law.specs.After.{event, owing}
use Rattle.pp_law.specs.Chunks.{floor, trigger}
use Rattle.pp_law.specs.State.{State, Term, Awaiting, ReadOf}
use Rattle.pp_obeys.specs.Obeys.{Obeys}
use Rattle.pp_origins.specs.Gots.{Both, Makes, both}
use Rattle.pp_proxy.specs.Handling.{Wakes}
use Rattle.pp_proxy.specs.Moving.{Moving}
use Rattle.pp_store.specs.Kept.{KeptMap}
use Rattle.pp_world.specs.Log.{Log}

-- ---- what a turn leaves

-- fewer chunks are used than the trigger says, or no more than the floor does
abbrev pub HasLeftEnough : State → Type 0
HasLeftEnough s = (length s.chunks < trigger s) ⊎ (length s.chunks ≤ floor s)

abbrev pub WaitsLeaveEnough : Type 0
WaitsLeaveEnough = (terms : List Term) (s : State) (log : Log) → Obeys terms s log → s.phase ≡ Awaiting → HasLeftEnough s

-- ---- the read

abbrev pub ReadsBeginNoted : Type 0
ReadsBeginNoted = (terms : List Term) (log : Log) (number : ℕ → ℕ) (shelf : KeptMap) (k : ℕ) (x : Moving) (woken : Desk) (begins : Both) (s : State) → StandsBefore terms log number shelf x s → Wakes k x.desk woken → Makes (λ z. z) (both woken) begins
    → length x.desk.state.cache.outdated ≤ 768 → MayNoteAll shelf k begins (event (owing (ReadOf k) k s))
