-- What is carried stands where a read or a write is owed to an event, and behind a write before which the chunk of the next byte could not be
-- read back (ours): the shelf is kept without its entry, whose name is closed.
--
-- Where the premises come from: as in `Behind`; Loads of `pp_events_law` leads to both. The log is told behind the event.
use Rattle.std.specs.Prelude.{◌≡◌, ℕ, List}
use Rattle.pp_desk.specs.declared.desk.Desk.{Desk}
use Rattle.pp_events_law.specs.Loads.{HasLostChunk}
use Rattle.pp_events_law.specs.Stands.{StandsAtEvent}
use Rattle.pp_events_law.specs.Woken.{IsOwed}
use Rattle.pp_joints_law.specs.Behind.{CarriesOn, HasFew, StandsBefore}
use Rattle.pp_joints_law.specs.BehindReads.{IsTold}
use Rattle.pp_joints_law.specs.Carried.{IsCarried}
use Rattle.pp_law.specs.After.{event, owing}
use Rattle.pp_law.specs.State.{State, Term, Handling, ReadOf, WriteTo}
use Rattle.pp_proxy.specs.Handling.{SaysAt, Wakes}
use Rattle.pp_proxy.specs.Moving.{Moving, Turning, with_desk}
use Rattle.pp_store.specs.Kept.{KeptMap}
use Rattle.pp_world.specs.Log.{Log}
use Rattle.pp_world.specs.declared.happening.Happening.TheVariants.{CanRead, CanWrite}

-- ---- where it is owed

-- nothing has to leave memory there
pub record StandsOwed (shelf : KeptMap) (x : Moving) (s : State) : Type 0 where
  pub carried : IsCarried shelf x s
  pub forgotten : x.desk.state.forgotten ≡ s.forgotten
  pub evicting : x.desk.state.is_evicting ≡ s.is_evicting

abbrev pub ReadsAreOwedSo : Type 0
ReadsAreOwedSo = (terms : List Term) (log : Log) (number : ℕ → ℕ) (shelf : KeptMap) (id : ℕ) (x : Moving) (woken : Desk) (s : State) → StandsBefore terms log number shelf x s → Wakes id x.desk woken → HasFew (with_desk woken x)
    → IsOwed number (ReadOf id) (CanRead id) (with_desk woken x) s (event (owing (ReadOf id) id s)) → StandsOwed shelf (with_desk woken x) (event (owing (ReadOf id) id s))

abbrev pub WritesAreOwedSo : Type 0
WritesAreOwedSo = (terms : List Term) (log : Log) (number : ℕ → ℕ) (shelf : KeptMap) (id : ℕ) (x : Moving) (woken : Desk) (s : State) → StandsBefore terms log number shelf x s → Wakes id x.desk woken → HasFew (with_desk woken x)
    → IsOwed number (WriteTo id) (CanWrite id) (with_desk woken x) s (event (owing (WriteTo id) id s)) → StandsOwed shelf (with_desk woken x) (event (owing (WriteTo id) id s))

-- ---- its chunk could not be read

abbrev pub LossesCarry : Type 0
LossesCarry = (number : ℕ → ℕ) (id i : ℕ) (x y : Turning) (s : State) → StandsAtEvent number Handling (WriteTo id) x.moving s → StandsOwed x.shelf x.moving s → IsTold y → SaysAt i x y → HasFew y.moving → (it : HasLostChunk number x y s)
    → CarriesOn y.shelf y.moving it.handled.handled
