-- Of what is dropped as much is counted as came, behind a write (ours): to a client, whether its chunk was read back before or not, and to an
-- origin.
--
-- Where the premises come from: as in `Counts`. What a write adds to the log is what its call says: `write_log` of `pp_desk`, behind the note of
-- the chunk that was read back (`chunk_notes` of `pp_talk`).
use Rattle.std.specs.Prelude.{◌≡◌, ℕ, Bool, true, false, [], ◌∷◌, ⊤}
use Rattle.pp_desk.specs.declared.desk.Desk.{Desk}
use Rattle.pp_events_law.specs.Loads.{HasLostChunk}
use Rattle.pp_events_law.specs.Stands.{HasLed, HasLedBehind, StandsAtEvent, come}
use Rattle.pp_law.specs.After.{event, owing}
use Rattle.pp_law.specs.State.{State, Owed, Awaiting, Handling, Free, WriteTo}
use Rattle.pp_proxy.specs.Handling.{Handles, SaysAt, Wakes}
use Rattle.pp_proxy.specs.Moving.{Turning}
use Rattle.pp_stays_law.specs.Turns.{AreCounted}
use Rattle.pp_world.specs.Log.{Log}
use Rattle.pp_world.specs.declared.event.Event.TheVariants.{Writable}
use Rattle.pp_world.specs.declared.happening.Happening.{Happening}
use Rattle.pp_world.specs.declared.happening.Happening.TheVariants.{Asked, Broke, CanWrite, HungUp, Noted, Said}
use Rattle.pp_world.specs.declared.note.Remark.{Remark}
use Rattle.pp_world.specs.declared.note.Remark.TheVariants.{Loaded}

-- ---- what it adds

-- a chunk was read back
abbrev pub is_read_back : Remark → Bool
is_read_back (Loaded key tag n i) = true
is_read_back remark = false

-- a client was said something, or an origin was asked; or its connection broke
abbrev pub is_of_write : Happening → Bool
is_of_write (Said c offered bytes) = true
is_of_write (HungUp c) = true
is_of_write (Asked k bytes) = true
is_of_write (Broke k) = true
is_of_write (Noted remark) = is_read_back remark
is_of_write h = false

-- all of these
abbrev pub AreOfWrite : Log → Type 0
AreOfWrite [] = ⊤
AreOfWrite (h ∷ hs) = (is_of_write h ≡ true) × AreOfWrite hs

-- ---- from the wait on

-- to whomever it is
abbrev pub CountedAsWritten : Type 0
CountedAsWritten = (number : ℕ → ℕ) (id : ℕ) (x y : Turning) (s : State) → StandsAtEvent number Awaiting Free x.moving s → Handles (Writable id) (come (Writable id) x) y → (it : HasLedBehind number (CanWrite id) x y s) → AreOfWrite it.log → AreCounted x.moving.desk.state s → AreCounted y.moving.desk.state it.handled.handled

-- ---- from where it is owed to the event

-- a read or a write is
abbrev pub CountedAsOwed : Type 0
CountedAsOwed = (owed : Owed) (id : ℕ) (old woken : Desk) (s : State) → Wakes id old woken → AreCounted old.state s → AreCounted woken.state (event (owing owed id s))

-- a client is written to
abbrev pub CountedAsSaid : Type 0
CountedAsSaid = (number : ℕ → ℕ) (id i : ℕ) (x y : Turning) (s : State) → StandsAtEvent number Handling (WriteTo id) x.moving s → SaysAt i x y → (it : HasLed number x y s) → AreOfWrite it.log → AreCounted x.moving.desk.state s → AreCounted y.moving.desk.state it.handled.handled.handled

-- its chunk could not be read back
abbrev pub CountedAsLost : Type 0
CountedAsLost = (number : ℕ → ℕ) (id i : ℕ) (x y : Turning) (s : State) → StandsAtEvent number Handling (WriteTo id) x.moving s → SaysAt i x y → (it : HasLostChunk number x y s) → AreCounted x.moving.desk.state s → AreCounted y.moving.desk.state it.handled.handled
