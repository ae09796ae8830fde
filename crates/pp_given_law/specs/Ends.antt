-- Of what is dropped as much is counted as came, behind the read of an origin that brings nothing of a response: its connection ended, or broke,
-- or nothing came yet (ours). A clean end may end a body.
--
-- Where the premises come from: as in `Counts`; no client has this connection, and there is room for the data of all that one read may bring
-- (`HasRoomForData` of pp_reads_law). The log is told behind it.
use Rattle.std.specs.Prelude.{◌≡◌, ℕ, Bool, true, false, [], ◌∷◌, Some, None, ⊤}
use Rattle.pp_events_law.specs.Stands.{HasLedBehind, StandsAtEvent, come}
use Rattle.pp_law.specs.State.{State, Awaiting, Free}
use Rattle.pp_proxy.specs.Handling.{Handles}
use Rattle.pp_proxy.specs.Moving.{Turning}
use Rattle.pp_reads_law.specs.Keys.{HasRoomForData}
use Rattle.pp_state.specs.Ends.{numbers_of, place_of}
use Rattle.pp_stays_law.specs.Turns.{AreCounted}
use Rattle.pp_world.specs.Log.{Log}
use Rattle.pp_world.specs.declared.event.Event.TheVariants.{Readable}
use Rattle.pp_world.specs.declared.happening.Happening.{Happening}
use Rattle.pp_world.specs.declared.happening.Happening.TheVariants.{Broke, CanRead, Ended, NoneYet}

-- its connection is gone, or nothing came yet
abbrev pub is_of_end : Happening → Bool
is_of_end (Ended k) = true
is_of_end (Broke k) = true
is_of_end (NoneYet n) = true
is_of_end h = false

-- all of these
abbrev pub AreOfEnd : Log → Type 0
AreOfEnd [] = ⊤
AreOfEnd (h ∷ hs) = (is_of_end h ≡ true) × AreOfEnd hs

-- the numbers of rows may be others behind it
abbrev pub CountedAsEnded : Type 0
CountedAsEnded = (number other : ℕ → ℕ) (k : ℕ) (x y : Turning) (s : State) (log : Log) → StandsAtEvent number Awaiting Free x.moving s → place_of k (numbers_of x.moving.desk.state.seats.items) ≡ None → HasRoomForData x → y.log ≡ Some log → Handles (Readable k) (come (Readable k) x) y
    → (it : HasLedBehind other (CanRead k) x y s) → AreOfEnd it.log → AreCounted x.moving.desk.state s → AreCounted y.moving.desk.state it.handled.handled
