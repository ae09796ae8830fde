-- Which clients are read at a wait (ours): each that may send more, where there is room for that, and nobody else. Those that are not looked at
-- stand in the wants as at the last wait, and are to be there still: each was read, and is silent, so that it is to be read on.
--
-- Where the premises come from: `may` as in Wanted. `were` is from the opening on (`NobodyWasRead`), over each wait
-- (`WaitsLeaveRead`), to the next (`ReadStayToNextWait`). `MayBeAsked` as in Wanted.
use Rattle.std.specs.Prelude.{◌≡◌, ◌&&◌, not, ℕ, true, take, List, filter, slice_get, Some}
use Rattle.std.specs.List.{list_all}
use Rattle.pp_desk.specs.declared.desk.Desk.{Desk}
use Rattle.pp_due.specs.Waits.{all_read, is_read}
use Rattle.pp_law.specs.Asking.{has_room}
use Rattle.pp_law.specs.Connections.{front_of_line}
use Rattle.pp_law.specs.Lists.{is_some_with}
use Rattle.pp_law.specs.Served.{is_stopped, may_read, wants_read}
use Rattle.pp_law.specs.State.{State, Client, Conn}
use Rattle.pp_proxy.specs.Awaiting.{Awaits, Rests}
use Rattle.pp_state.specs.Ends.{numbers_of}
use Rattle.pp_waits_law.specs.Asleep.{WereRead}
use Rattle.pp_waits_law.specs.Wanted.{MayWant}
use Rattle.pp_world.specs.declared.event.Wants.{Wants}

pub record MayRead (number : ℕ → ℕ) (before : List ℕ) (d : Desk) (s : State) : Type 0 where
  pub may : MayWant number before d s
  pub were : WereRead before d.state

-- of all that are written at the end of a turn
abbrev pub OfReads : (List ℕ → Desk → State → Wants → Type 0) → Type 0
OfReads P = (number : ℕ → ℕ) (before : List ℕ) (w : Wants) (clients : ℕ) (d e : Desk) (s : State) → MayRead number before d s → Awaits before w clients d e → P before d s w

-- ---- which

-- those that are to be read are written down, in their order
abbrev pub ReadAreWritten : Type 0
ReadAreWritten = OfReads (λ before d s w. all_read d.state before ≡ numbers_of (filter is_read d.state.seats.items))

-- as the law has them read
abbrev pub ClientsAreRead : Type 0
ClientsAreRead = OfReads (λ before d s w. (i : ℕ) (c : Client) → slice_get s.clients i ≡ Some c → wants_read w c.number ≡ (not c.has_hung_up && has_room c))

-- and nobody else
abbrev pub NoMoreIsRead : Type 0
NoMoreIsRead = OfReads (λ before d s w. list_all (may_read s) w.read.items ≡ true)

-- so that there is room for the origins
abbrev pub OriginsAreRead : Type 0
OriginsAreRead = OfReads (λ before d s w. (i : ℕ) (k : Conn) → slice_get s.conns i ≡ Some k → wants_read w k.number ≡ (k.is_reached && not (is_some_with (is_stopped s) (front_of_line s k))))

-- ---- and behind the wait

-- whoever is not looked at was read
abbrev pub WaitsLeaveRead : Type 0
WaitsLeaveRead = (number : ℕ → ℕ) (before : List ℕ) (w : Wants) (clients : ℕ) (d e f : Desk) (s : State) → MayRead number before d s → Awaits before w clients d e → Rests w clients e f → WereRead (take clients w.read.items) f.state
