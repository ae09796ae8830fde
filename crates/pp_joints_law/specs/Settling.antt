-- What is carried stands behind decisions and rounds, and behind the wait that comes then (ours).
--
-- Where the premises come from: HasServed of `pp_rounds_law` is where decisions and rounds lead, before Stop, from where the turn stands behind
-- the disk (Keeping.`HasBeenKept`); HasRested of `pp_waits_law` is what the wait leaves.
use Rattle.std.specs.Prelude.{◌≡◌, ℕ, List}
use Rattle.pp_desk.specs.declared.desk.Desk.{Desk}
use Rattle.pp_joints_law.specs.Carried.{IsCarried}
use Rattle.pp_law.specs.Phases.{ending}
use Rattle.pp_law.specs.State.{State, Term, Deciding}
use Rattle.pp_law.specs.Turn.{rest_with}
use Rattle.pp_obeys.specs.Obeys.{Obeys}
use Rattle.pp_proxy.specs.Awaiting.{Awaits, Rests}
use Rattle.pp_proxy.specs.Moving.{Moving, with_desk}
use Rattle.pp_proxy.specs.Settling.{Settles}
use Rattle.pp_rounds_law.specs.Serves.{HasServed}
use Rattle.pp_store.specs.Kept.{KeptMap}
use Rattle.pp_waits_law.specs.Rests.{HasRested}
use Rattle.pp_world.specs.Log.{Log}
use Rattle.pp_world.specs.declared.event.Wants.{Wants}

-- ---- decisions and rounds

-- none of what happens is of the disk, and the clock does not tick (`pp_laws_quiet`); what may come in of each key is the law's still (Kept of
-- `pp_kept_law`)
abbrev pub SettlingsCarry : Type 0
SettlingsCarry = (terms : List Term) (before : Log) (shelf : KeptMap) (x y : Moving) (log : Log) (s : State) (it : HasServed terms before shelf y log s) → Obeys terms s before → s.phase ≡ Deciding → IsCarried shelf x s → Settles shelf x log y
    → IsCarried shelf y (ending it.then)

-- ---- the wait

-- it leaves as much room to look at clients
abbrev pub WaitsCarry : Type 0
WaitsCarry = (number : ℕ → ℕ) (shelf : KeptMap) (before : List ℕ) (w : Wants) (clients : ℕ) (x : Moving) (e f : Desk) (s : State) → IsCarried shelf x s → Awaits before w clients x.desk e → Rests w clients e f → HasRested number x.desk f s (rest_with w s)
    → IsCarried shelf (with_desk f x) (rest_with w s)
