-- A client is said what is at hand for it, where nothing has to be read back before (RFC 2616, sections 6 and 8.1): some of its reply is said,
-- behind the last of which it is over, or the write fails.
--
-- Where the premises come from: `sound` of each state that a lawful log may go on as from (IsSoundTurn of pp_laws_turn). A client is written
-- to where it has something to say (`has_to_say` of pp_law, as `is_dry` of pp_due reads it at the wait), so that where its next byte is not
-- on the disk alone some of it is at hand; nobody is closing at a wait, no reply is over, and of nobody all is answered (`pp_comes_law`, its
-- Settled). No instance is longer than 1 GiB (`can_keep` of pp_valid, at its making), nor a span (`pp_laws_spans`). Whether a reply that began
-- closes is what its request and its head say (`Begun` of pp_laws_replies, of the client that the seat shows); nobody counts 2^64 requests,
-- where the log has fewer than 2^50 happenings (`pp_laws_sides`).
use Rattle.std.specs.Prelude.{◌≡◌, ◌<◌, ◌≤◌, ℕ, true, false, length, slice_get, vec_capacity, Some, None}
use Rattle.pp_cache.specs.Bounds.{IsBounded}
use Rattle.pp_clients_obey.specs.Ending.{GoesOn}
use Rattle.pp_due.specs.OnDisk.{next_on_disk}
use Rattle.pp_events_law.specs.Hears.{AreSettled}
use Rattle.pp_events_law.specs.Ready.{HasLedReady}
use Rattle.pp_events_law.specs.Stands.{AreReadyAt, StandsAtEvent}
use Rattle.pp_law.specs.State.{State, Handling, WriteTo}
use Rattle.pp_laws_turn.specs.SoundTurn.{IsSoundTurn}
use Rattle.pp_links.specs.Links.{IsLinked}
use Rattle.pp_proxy.specs.Handling.{SaysAt}
use Rattle.pp_proxy.specs.Moving.{Turning}
use Rattle.pp_seats.specs.Courses.{has_begun}
use Rattle.pp_seats.specs.Follows.{next_of}
use Rattle.pp_seats.specs.declared.seat.Next.{Next}
use Rattle.pp_seats.specs.declared.seat.Seat.{Seat}
use Rattle.pp_state.specs.Ends.{numbers_of, place_of}
use Rattle.pp_talk.specs.Talking.{offered}

-- the client at this place is written to
pub record MaySay (id i : ℕ) (x : Turning) (seat : Seat) : Type 0 where
  pub place : place_of id (numbers_of x.moving.desk.state.seats.items) ≡ Some i
  pub here : slice_get x.moving.desk.state.seats.items i ≡ Some seat
  pub going : seat.is_closing ≡ false
  -- its next byte is not on the disk alone: where it is, its chunk is read back before
  pub held : next_on_disk x.moving.desk.state seat ≡ None
  pub some : 0 < length (offered seat.client.reply x.moving.desk.state.cache)
  pub within : (next : Next) → next_of seat ≡ Some next → next.to ≤ 1073741824
  -- it can be looked at, as each can (`IsSet` of pp_desk)
  pub looks : length x.moving.desk.state.awake.items < vec_capacity x.moving.desk.state.awake
  -- since the wait no second began
  pub still : x.moving.desk.state.is_ticked ≡ false
  -- Links of `pp_links`, at each call
  pub linked : IsLinked x.log x.moving.top x.moving.links
  pub settled : AreSettled x.moving.desk.state.seats.items
  -- where it does not close behind a reply that began, its request keeps the connection open, and requests can be counted still
  pub goes : has_begun seat ≡ true → seat.closes ≡ false → GoesOn seat

-- from where the write is owed: where some of its reply is left, where nothing was taken, where all of it was said and the reply is over, and
-- where the write fails
abbrev pub SayingsLead : Type 0
SayingsLead = (number : ℕ → ℕ) (id i : ℕ) (x y : Turning) (seat : Seat) (s : State) → StandsAtEvent number Handling (WriteTo id) x.moving s → AreReadyAt number x.moving s → IsSoundTurn s → MaySay id i x seat → IsBounded y.moving.desk.state.cache → SaysAt i x y → HasLedReady number x y s
