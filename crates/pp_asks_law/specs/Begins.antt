-- Replies begin at the end of a turn (RFC 2616, sections 6, 13.2.3 and 14; RFC 7233, section 4).
use Rattle.std.specs.Prelude.{◌≡◌, ◌≤◌, ℕ, length, List, slice_get, Some}
use Rattle.pp_asks_law.specs.Rests.{NoneIsRefused}
use Rattle.pp_deciding_law.specs.Stands.{StandsToDecide}
use Rattle.pp_desk.specs.declared.desk.Desk.{Desk}
use Rattle.pp_law.specs.State.{State, Term}
use Rattle.pp_obeys.specs.Obeys.{Obeys}
use Rattle.pp_rounds_law.specs.Ends.{AllMayBeginNow}
use Rattle.pp_seats.specs.declared.seat.Seat.{Seat}
use Rattle.pp_state.specs.declared.state.State.{State as Turn}
use Rattle.pp_store.specs.Kept.{KeptMap}
use Rattle.pp_world.specs.Log.{Log}

-- what was written for each client has room in its buffer
abbrev pub TextsHaveRoom : List Seat → Type 0
TextsHaveRoom seats = (i : ℕ) (seat : Seat) → slice_get seats i ≡ Some seat → length seat.client.reply.text ≤ 20480

-- what that rests on beside what stands amid decisions
pub record BeginsOn (p : Turn) : Type 0 where
  pub given : NoneIsRefused p.seats.items
  -- the type of the buffer (`Reply` of pp_client): carried
  pub texts : TextsHaveRoom p.seats.items
  -- the type of the name, from the opening on
  pub name : length p.name.items ≤ 64

-- before the head of its response nothing is passed of an exchange (`pp_laws_coming`); a reply is by the version of its source, in the span of what was
-- decided (`pp_laws_decided`); and each head has room (`pp_laws_texts`)
abbrev pub RepliesMayBegin : Type 0
RepliesMayBegin = (terms : List Term) (before : Log) (number : ℕ → ℕ) (shelf : KeptMap) (p : Desk) (s : State) → Obeys terms s before → StandsToDecide number p.peers shelf p.state s → BeginsOn p.state → AllMayBeginNow number p s
