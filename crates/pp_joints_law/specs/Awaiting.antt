-- From the wait to where an event is awaited (ours).
--
-- Where the premises come from: the log goes on as from the state behind the wait, as WaitsLead of `pp_waits_law` leads there; that no row left
-- memory for a decision is Ends.`HasEnded` of `pp_rounds_law`, `none`. Memory was refused for no row: in the program a life in which it was goes
-- astray (Astray of `pp_state`), and a turn says so at its end; that no seat has such a row then is carried (`pp_given_law`, `pp_stays_law`).
use Rattle.std.specs.Prelude.{◌≡◌, ℕ, false, List, slice_get, Some, None}
use Rattle.pp_desk.specs.declared.desk.Desk.{Desk}
use Rattle.pp_events_law.specs.Stands.{AreReadyAt, StandsAtEvent}
use Rattle.pp_joints_law.specs.Carried.{IsCarried}
use Rattle.pp_rests_law.specs.Closing.{NoneIsRefused}
use Rattle.pp_law.specs.State.{State, Term, Awaiting, Free}
use Rattle.pp_obeys.specs.Obeys.{Obeys}
use Rattle.pp_proxy.specs.Moving.{Moving, with_desk}
use Rattle.pp_seats.specs.Dues.{is_refused_in}
use Rattle.pp_seats.specs.declared.seat.Seat.{Seat}
use Rattle.pp_state.specs.declared.state.State.{State as Turn}
use Rattle.pp_store.specs.Kept.{KeptMap}
use Rattle.pp_waits_law.specs.Rests.{HasRested}
use Rattle.pp_world.specs.Log.{Log}

-- ---- memory was refused for no row

-- that an exchange brought to one of the clients, of the program's
abbrev pub NoSeatIsRefused : Turn → Type 0
NoSeatIsRefused p = (i : ℕ) (seat : Seat) → slice_get p.seats.items i ≡ Some seat → is_refused_in seat.brought ≡ false

-- nor then of the law's, behind a wait: nobody is closing there
abbrev pub GivenOnesAreTheLaws : Type 0
GivenOnesAreTheLaws = (number : ℕ → ℕ) (e f : Desk) (s t : State) → HasRested number e f s t → NoSeatIsRefused f.state → NoneIsRefused t

-- ---- where an event is awaited

-- the turn stands where an event is awaited, nothing is owed to it, and each client can be decided
pub record AwaitsEvent (number : ℕ → ℕ) (x : Moving) (t : State) : Type 0 where
  pub stands : StandsAtEvent number Awaiting Free x t
  pub ready : AreReadyAt number x t

-- behind a wait that began with what is carried, and left the desk so; that memory was refused for no row is GivenOnesAreTheLaws
abbrev pub RestedOnesAwait : Type 0
RestedOnesAwait = (terms : List Term) (log : Log) (number : ℕ → ℕ) (shelf : KeptMap) (x : Moving) (f : Desk) (s t : State) → Obeys terms t log → HasRested number x.desk f s t → s.made_room_for ≡ None → IsCarried shelf x s → NoneIsRefused t
    → AwaitsEvent number (with_desk f x) t
