-- A client is read: what it sent is heard, or it sends no more, or nothing came yet; and then replies that are over end (RFC 2616, section
-- 5).
--
-- Where the premises come from: `sound` of each state that a lawful log may go on as from (IsSoundTurn of pp_laws_turn). A client is read
-- where it may send more and there is room for that (`is_read` of pp_due, at the wait); nobody is closing at a wait, no reply is over, and of
-- nobody all is answered (`pp_comes_law`, its Settled).
use Rattle.std.specs.Prelude.{◌≡◌, ◌<◌, ℕ, false, length, slice_get, vec_capacity, List, Some}
use Rattle.pp_cache.specs.Bounds.{IsBounded}
use Rattle.pp_client.specs.Requests.{room_of}
use Rattle.pp_clients_obey.specs.Ending.{IsSettled}
use Rattle.pp_law.specs.State.{State, Handling, ReadOf}
use Rattle.pp_laws_turn.specs.SoundTurn.{IsSoundTurn}
use Rattle.pp_links.specs.Links.{IsLinked}
use Rattle.pp_proxy.specs.Handling.{HearsAt}
use Rattle.pp_proxy.specs.Moving.{Turning}
use Rattle.pp_seats.specs.declared.seat.Seat.{Seat}
use Rattle.pp_state.specs.Ends.{numbers_of, place_of}
use Rattle.pp_events_law.specs.Ready.{HasLedReady}
use Rattle.pp_events_law.specs.Stands.{AreReadyAt, StandsAtEvent}

-- no reply is over, and of nobody all is answered
abbrev pub AreSettled : List Seat → Type 0
AreSettled seats = (i : ℕ) (seat : Seat) → slice_get seats i ≡ Some seat → IsSettled seat

-- the client at this place is read
pub record MayHear (id i : ℕ) (x : Turning) (seat : Seat) : Type 0 where
  pub place : place_of id (numbers_of x.moving.desk.state.seats.items) ≡ Some i
  pub here : slice_get x.moving.desk.state.seats.items i ≡ Some seat
  pub going : seat.is_closing ≡ false
  pub room : 0 < room_of seat.client.heard
  -- 32,768 from the opening on
  pub long : 0 < length x.moving.desk.buffer.items
  -- it can be looked at, as each can (`IsSet` of pp_desk)
  pub looks : length x.moving.desk.state.awake.items < vec_capacity x.moving.desk.state.awake
  -- since the wait no second began
  pub still : x.moving.desk.state.is_ticked ≡ false
  -- Links of `pp_links`, at each call
  pub linked : IsLinked x.log x.moving.top x.moving.links
  pub settled : AreSettled x.moving.desk.state.seats.items

-- from where the read is owed
abbrev pub HearingsLead : Type 0
HearingsLead = (number : ℕ → ℕ) (id i : ℕ) (x y : Turning) (seat : Seat) (s : State) → StandsAtEvent number Handling (ReadOf id) x.moving s → AreReadyAt number x.moving s → IsSoundTurn s → MayHear id i x seat → IsBounded y.moving.desk.state.cache → HearsAt i x y → HasLedReady number x y s
