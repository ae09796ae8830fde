-- Behind an event each client that goes on can be decided: what it follows is there, memory was not refused for its key, and what its
-- exchange joins is told by its number (RFC 2616, section 5; the order is ours).
--
-- Where the premise comes from: a head may be read in an event, of who is read, and of those whose reply is over, where the next one stands.
-- Memory may be refused for its key (IsFrontOf of `pp_seats`). Nothing is said of a turn in which it was, as elsewhere.
use Rattle.std.specs.Prelude.{◌≡◌, ℕ, false, List, slice_get, Some}
use Rattle.pp_law.specs.State.{State}
use Rattle.pp_proxy.specs.Moving.{Turning}
use Rattle.pp_seats.specs.Dues.{refused_in}
use Rattle.pp_seats.specs.declared.seat.Seat.{Seat}
use Rattle.pp_world.specs.declared.happening.Happening.{Happening}
use Rattle.pp_events_law.specs.Stands.{AreReadyAt, HasLed, HasLedBehind}

-- memory was given for the key of each head that was read: of those that go on it is refused to none but to whom it was refused before
abbrev pub KeysAreGiven : List Seat → List Seat → Type 0
KeysAreGiven old new = (i : ℕ) (before after : Seat) → slice_get old i ≡ Some before → slice_get new i ≡ Some after → after.is_closing ≡ false → refused_in after.front ≡ Some 500 → refused_in before.front ≡ Some 500

-- at the law's state behind the event
abbrev pub StaysReady : (ℕ → ℕ) → Turning → Turning → State → Type 0
StaysReady number x y t = KeysAreGiven x.moving.desk.state.seats.items y.moving.desk.state.seats.items → AreReadyAt number y.moving t

-- where it leads by whatever it adds
pub record HasLedReady (number : ℕ → ℕ) (x y : Turning) (s : State) : Type 0 where
  pub led : HasLed number x y s
  pub ready : StaysReady number x y led.then

-- the same from the wait on
pub record HasLedReadyBehind (number : ℕ → ℕ) (h : Happening) (x y : Turning) (s : State) : Type 0 where
  pub led : HasLedBehind number h x y s
  pub ready : StaysReady number x y led.then
