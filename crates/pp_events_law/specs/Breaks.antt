-- The connection of an origin breaks where nothing is read of it or written to it: the exchanges of its line are over, or asked elsewhere
-- (RFC 2616, sections 8.1 and 8.1.4).
--
-- Where the premises come from: the log obeys the law up to the wait (`Obeys`), from which the states amid the event are sound. The log has
-- the connection dialled, and not closed (IsOnDialled of pp_world), so that it is there; nobody is closing at a wait (`close_over`), and no
-- reply is over (`AreSettled`). That a response that was begun answers the first of its line, which was asked whole, is of `lined` and
-- `placed` of `IsSoundTurn` with what a response is permitted for (`is_outstanding`).
use Rattle.std.specs.Prelude.{◌≡◌, ℕ, false, List, Some}
use Rattle.pp_cache.specs.Bounds.{IsBounded}
use Rattle.pp_endings_law.specs.Gone.{IsAnswering}
use Rattle.pp_law.specs.After.{event, gone, paid}
use Rattle.pp_law.specs.Connections.{conn}
use Rattle.pp_law.specs.State.{State, Answer, Conn, Term, Awaiting, Free}
use Rattle.pp_obeys.specs.Obeys.{Obeys}
use Rattle.pp_proxy.specs.Handling.{Handles}
use Rattle.pp_proxy.specs.Moving.{Turning}
use Rattle.pp_world.specs.Log.{Log}
use Rattle.pp_world.specs.declared.event.Event.TheVariants.{Broken}
use Rattle.pp_world.specs.declared.happening.Happening.TheVariants.{Broke}
use Rattle.pp_events_law.specs.Hears.{AreSettled}
use Rattle.pp_events_law.specs.Ready.{StaysReady}
use Rattle.pp_events_law.specs.Silent.{IsSilentlyHandled}
use Rattle.pp_events_law.specs.Stands.{AreReadyAt, StandsAtEvent, come}

pub record MayBreak (k : ℕ) (x : Turning) (s : State) (j : Conn) : Type 0 where
  pub there : conn s k ≡ Some j
  pub going : j.is_closing ≡ false
  pub answers : (a : Answer) → j.answer ≡ Some a → IsAnswering s j
  pub settled : AreSettled x.moving.desk.state.seats.items

abbrev pub BreaksLead : Type 0
BreaksLead = (terms : List Term) (log : Log) (number : ℕ → ℕ) (k : ℕ) (x y : Turning) (s : State) (j : Conn) → Obeys terms s log → StandsAtEvent number Awaiting Free x.moving s → AreReadyAt number x.moving s → MayBreak k x s j → IsBounded y.moving.desk.state.cache
    → Handles (Broken k) (come (Broken k) x) y → IsSilentlyHandled number (Broke k) y s (paid (gone false k (event s))) × StaysReady number x y (paid (gone false k (event s)))
