-- What is waited for at the end of a turn is what the law has waited for: whether a client is accepted, to whom there is something to say, and
-- which origins are asked and read (ours).
--
-- Where the premises come from: `stands` as in `Rests`, `order` and `apart` as in `Waits`. `alone` is `apart` of `IsSoundTurn`, `asked` its
-- `bounded` and its `bodies` with its `by_itself`, where nobody is closing. `room` is its `bounded`: no more clients than 256, nor connections than 64.
use Rattle.std.specs.Prelude.{◌≡◌, ◌≤◌, ◌+◌, ◌&&◌, not, ℕ, true, length, List, slice_get, Some}
use Rattle.std.specs.List.{list_all}
use Rattle.pp_desk.specs.declared.desk.Desk.{Desk}
use Rattle.pp_due.specs.Waits.{all_read}
use Rattle.pp_endings_law.specs.Waits.{MayBeAsked}
use Rattle.pp_law.specs.Connections.{front_of_line}
use Rattle.pp_law.specs.Lists.{is_some_with}
use Rattle.pp_law.specs.Offers.{has_to_say}
use Rattle.pp_law.specs.Served.{accepts, has_to_ask, is_stopped, may_write, wants_read, wants_write}
use Rattle.pp_law.specs.State.{State, Client, Conn}
use Rattle.pp_proxy.specs.Awaiting.{Awaits}
use Rattle.pp_state.specs.Ends.{AreInOrder}
use Rattle.pp_states_law.specs.Decisions.{AreApart}
use Rattle.pp_waits_law.specs.Rests.{StandsToWait}
use Rattle.pp_waits_law.specs.Waits.{OriginsAreApart}
use Rattle.pp_world.specs.declared.event.Wants.{Wants}

pub record MayWant (number : ℕ → ℕ) (before : List ℕ) (d : Desk) (s : State) : Type 0 where
  pub stands : StandsToWait number d s
  pub order : AreInOrder before
  pub apart : OriginsAreApart before d
  pub alone : AreApart s
  pub room : length d.state.seats.items + length d.peers ≤ 320

-- of all that are written at the end of a turn
abbrev pub OfWants : (List ℕ → Desk → State → Wants → Type 0) → Type 0
OfWants P = (number : ℕ → ℕ) (before : List ℕ) (w : Wants) (clients : ℕ) (d e : Desk) (s : State) → MayWant number before d s → Awaits before w clients d e → P before d s w

-- one client more is accepted
abbrev pub AcceptsAreWanted : Type 0
AcceptsAreWanted = OfWants (λ before d s w. w.accept ≡ accepts s)

-- a client is written to where there is something to say to it
abbrev pub SaysAreWanted : Type 0
SaysAreWanted = OfWants (λ before d s w. (i : ℕ) (c : Client) → slice_get s.clients i ≡ Some c → wants_write w c.number ≡ has_to_say s c)

-- an origin where something of its line is to be asked
abbrev pub AsksAreWanted : Type 0
AsksAreWanted = OfWants (λ before d s w. ((i : ℕ) (k : Conn) → slice_get s.conns i ≡ Some k → MayBeAsked s k) → (i : ℕ) (k : Conn) → slice_get s.conns i ≡ Some k → wants_write w k.number ≡ (k.is_reached && has_to_ask s k))

-- and no other is written to
abbrev pub NoMoreIsWritten : Type 0
NoMoreIsWritten = OfWants (λ before d s w. ((i : ℕ) (k : Conn) → slice_get s.conns i ≡ Some k → MayBeAsked s k) → list_all (may_write s) w.write.items ≡ true)

-- an origin is read, unless reading stops for the first exchange of its line; where there is room behind the clients that are read
abbrev pub GetsAreWanted : Type 0
GetsAreWanted = OfWants (λ before d s w. length (all_read d.state before) + length d.peers ≤ 320 → (i : ℕ) (k : Conn) → slice_get s.conns i ≡ Some k
    → wants_read w k.number ≡ (k.is_reached && not (is_some_with (is_stopped s) (front_of_line s k))))
