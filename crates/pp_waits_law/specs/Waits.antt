-- Where a turn may end, the wait leads on to where an event is awaited (ours).
--
-- Where the premises come from: that the wait is permitted is Good.`WaitsArePermitted`, where a turn may end (Served of pp_laws_served), and
-- Good.`WantedWaitsLead` has both in one. What stands at the end, before the wait, is Ends.`HasEnded` of pp_rounds_law, where no row left memory
-- for a decision (its `none`). What was read at the last wait is of clients alone (`TurnsOn` of pp_proxy: its `read`), and no two connections
-- have one number.
use Rattle.std.specs.Prelude.{◌≡◌, ℕ, true, false, List, [], ◌∷◌, slice_get, Some, None}
use Rattle.pp_desk.specs.declared.desk.Desk.{Desk}
use Rattle.pp_law.specs.Lists.{has_number}
use Rattle.pp_law.specs.Permits.{permits_waits}
use Rattle.pp_law.specs.Phases.{ending}
use Rattle.pp_law.specs.State.{State}
use Rattle.pp_law.specs.Turn.{rest_with}
use Rattle.pp_obeys.specs.Moves.{Leads}
use Rattle.pp_peers.specs.declared.peers.Peer.{Peer}
use Rattle.pp_proxy.specs.Awaiting.{Awaits, Rests}
use Rattle.pp_state.specs.Ends.{AreInOrder, AreSeated, numbers_of}
use Rattle.pp_waits_law.specs.Rests.{HasRested, StandBehind, StandsToWait}
use Rattle.pp_world.specs.declared.event.Wants.{Wants}
use Rattle.pp_world.specs.declared.happening.Happening.TheVariants.{Waits}

-- ---- who stands first

-- no origin has the number of a client, or one of these
pub record IsApart (before : List ℕ) (d : Desk) (peer : Peer) : Type 0 where
  pub clients : has_number peer.number (numbers_of d.state.seats.items) ≡ false
  pub read : has_number peer.number before ≡ false

abbrev pub OriginsAreApart : List ℕ → Desk → Type 0
OriginsAreApart before d = (i : ℕ) (peer : Peer) → slice_get d.peers i ≡ Some peer → IsApart before d peer

-- of the numbers that are read, so many are clients'
abbrev pub ClientsStandFirst : Type 0
ClientsStandFirst = (before : List ℕ) (w : Wants) (clients : ℕ) (d e : Desk) → AreSeated d.state → AreInOrder before → OriginsAreApart before d → Awaits before w clients d e → StandBehind d.peers w clients

-- ---- the wait

-- where it may end, and what it was before
pub record MayWait (number : ℕ → ℕ) (before : List ℕ) (w : Wants) (d : Desk) (s : State) : Type 0 where
  pub stands : StandsToWait number d (ending s)
  pub permitted : permits_waits s w ≡ true
  pub none : s.made_room_for ≡ None
  pub order : AreInOrder before
  pub apart : OriginsAreApart before d

-- the wait may come, and leads there; and so stands the turn
pub record HasWaited (number : ℕ → ℕ) (w : Wants) (d f : Desk) (s : State) : Type 0 where
  pub leads : Leads (Waits w ∷ []) s (rest_with w (ending s))
  pub rested : HasRested number d f (ending s) (rest_with w (ending s))

abbrev pub WaitsLead : Type 0
WaitsLead = (number : ℕ → ℕ) (before : List ℕ) (w : Wants) (clients : ℕ) (d e f : Desk) (s : State) → MayWait number before w d s → Awaits before w clients d e → Rests w clients e f → HasWaited number w d f s
