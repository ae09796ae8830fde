-- What stands of each client in a turn (`specs/Turns.antt` of pp_stays_law) stands from one wait to the next (ours).
use Rattle.std.specs.Prelude.{◌≡◌, ◌≤◌, ℕ, false, length, List}
use Rattle.pp_desk.specs.declared.desk.Desk.{Desk}
use Rattle.pp_law.specs.State.{State}
use Rattle.pp_law.specs.Turn.{rest_with}
use Rattle.pp_proxy.specs.Awaiting.{Awaits, Rests}
use Rattle.pp_proxy.specs.Handling.{Handles}
use Rattle.pp_proxy.specs.Moving.{Turning}
use Rattle.pp_reads_law.specs.Keys.{HasRoomForData}
use Rattle.pp_stays_law.specs.Turns.{AreCounted, NoSeatIsRefused, TextsHaveRoom}
use Rattle.pp_world.specs.declared.event.Event.{Event}
use Rattle.pp_world.specs.declared.event.Wants.{Wants}
use Rattle.pp_given_law.specs.Stays.{StaysBehindEvents, StaysInEvents, StaysOverWaits}

-- ---- memory was refused for no row that a client waits for

abbrev pub GivenOverWaits : Type 0
GivenOverWaits = StaysOverWaits NoSeatIsRefused

abbrev pub GivenInEvents : Type 0
GivenInEvents = StaysInEvents NoSeatIsRefused

abbrev pub GivenBehindEvents : Type 0
GivenBehindEvents = StaysBehindEvents NoSeatIsRefused

-- ---- what each client is to be said first has room

abbrev pub TextsOverWaits : Type 0
TextsOverWaits = StaysOverWaits TextsHaveRoom

-- where the name of this proxy has at most 64 bytes: under it each head that is read has room, written anew (specs/Heads.antt)
abbrev pub TextsInEvents : Type 0
TextsInEvents = (event : Event) (x y : Turning) → length x.moving.desk.state.name.items ≤ 64 → HasRoomForData x → Handles event x y → y.moving.desk.state.is_astray ≡ false → TextsHaveRoom x.moving.desk.state → TextsHaveRoom y.moving.desk.state

abbrev pub TextsBehindEvents : Type 0
TextsBehindEvents = StaysBehindEvents TextsHaveRoom

-- ---- of what is dropped as much is counted as came

-- over a wait, in the law's state behind it
abbrev pub CountedOverWaits : Type 0
CountedOverWaits = (before : List ℕ) (wants : Wants) (clients : ℕ) (old awaiting rested : Desk) (s : State) → Awaits before wants clients old awaiting → Rests wants clients awaiting rested → AreCounted old.state s → AreCounted rested.state (rest_with wants s)
