-- What is written down at a wait is as good as what the law has waited for, so that a turn may end with it (ours).
--
-- Where the premises come from: `can` as in Reads, `asked` as in Wanted. Where a turn may end (`MayEnd`, `IsLeft`) is as in
-- Served of pp_laws_served; of a state behind which no row left for a decision, Unended.`TurnsMayEnd` of pp_laws_left gives `MayEnd`.
-- That none did is Ends.`HasEnded` of pp_rounds_law (its `none`).
use Rattle.std.specs.Prelude.{◌≡◌, ℕ, true, List, slice_get, Some, None}
use Rattle.pp_desk.specs.declared.desk.Desk.{Desk}
use Rattle.pp_endings_law.specs.Waits.{MayBeAsked}
use Rattle.pp_law.specs.Permits.{permits_waits}
use Rattle.pp_law.specs.Phases.{come_to, ending}
use Rattle.pp_law.specs.State.{State, Conn, DecidingAgain, Term}
use Rattle.pp_laws_served.specs.Served.{IsAsGood, IsLeft, MayEnd}
use Rattle.pp_proxy.specs.Awaiting.{Awaits, Rests}
use Rattle.pp_waits_law.specs.Reads.{MayRead}
use Rattle.pp_waits_law.specs.Waits.{HasWaited}
use Rattle.pp_world.specs.Log.{Log}
use Rattle.pp_world.specs.declared.event.Wants.{Wants}

-- who is read, and who may be asked
pub record MayReadAndAsk (number : ℕ → ℕ) (before : List ℕ) (d : Desk) (s : State) : Type 0 where
  pub can : MayRead number before d s
  pub asked : (i : ℕ) (k : Conn) → slice_get s.conns i ≡ Some k → MayBeAsked s k

abbrev pub WantsAreAsGood : Type 0
WantsAreAsGood = (number : ℕ → ℕ) (before : List ℕ) (w : Wants) (clients : ℕ) (d e : Desk) (s : State) → MayReadAndAsk number before d s → Awaits before w clients d e → IsAsGood s w

-- so the law permits the wait
abbrev pub WaitsArePermitted : Type 0
WaitsArePermitted = (terms : List Term) (s : State) (log : Log) (number : ℕ → ℕ) (before : List ℕ) (w : Wants) (clients : ℕ) (d e : Desk) → MayEnd terms s log → IsLeft (come_to DecidingAgain s) → MayReadAndAsk number before d (ending s) → Awaits before w clients d e
    → permits_waits s w ≡ true

-- and it comes, and leads on to where an event is awaited
abbrev pub WantedWaitsLead : Type 0
WantedWaitsLead = (terms : List Term) (s : State) (log : Log) (number : ℕ → ℕ) (before : List ℕ) (w : Wants) (clients : ℕ) (d e f : Desk) → MayEnd terms s log → IsLeft (come_to DecidingAgain s) → s.made_room_for ≡ None
    → MayReadAndAsk number before d (ending s) → Awaits before w clients d e → Rests w clients e f → HasWaited number w d f s
