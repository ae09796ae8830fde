-- Replies that were said whole are over, and clients of whom nothing is left are closed, as the law says (RFC 2616, section 8.1).
--
-- Where the premises come from: `passed` is of the step before. No reply is over when a turn begins (`StandsInTurn.rests` of pp_law), so
-- one that is over now, with no byte said, became so by the end of a response of its origin, and the clause of pp_origins for that end
-- makes the pipe whole with it. `front` and `known` are of what the program knows of a client that it keeps (`keeps_open` of
-- pp_client: it does not close), `counted` of the bound of turns (`bounded` of pp_laws_turn). `once` and `rests` are those of `IsSoundTurn`,
-- `follow` its `sources` with the numbers that tables were told.
use Rattle.std.specs.Prelude.{◌≡◌, ◌≤◌, ◌+◌, ◌-◌, ◌^◌, ◌==◌, ℕ, true, false, count_by, is_ok, length, slice_get, List, Some, None}
use Rattle.pp_cache.specs.Bounds.{IsBounded}
use Rattle.pp_client.specs.Replies.{is_said}
use Rattle.pp_turns_law.specs.Sides.{MayClose, OfSides, ShowsSides}
use Rattle.pp_turns_law.specs.Decides.{IsAtPlace}
use Rattle.pp_turns_law.specs.Useless.{AllFollow}
use Rattle.pp_desk.specs.Closings.{KeepsDesk, Sides, sides}
use Rattle.pp_desk.specs.Replies.{EndsReplies}
use Rattle.pp_desk.specs.declared.desk.Desk.{Desk}
use Rattle.pp_flow_law.specs.Tables.{AreGiven, none_leaves}
use Rattle.pp_law.specs.Closing.{is_of}
use Rattle.pp_law.specs.Connections.{exchange}
use Rattle.pp_law.specs.Lists.{Bytes, has_number}
use Rattle.pp_law.specs.Replies.{end_replies}
use Rattle.pp_law.specs.Requests.{Parsed, IsRequest}
use Rattle.pp_law.specs.State.{State, Client, Exchange}
use Rattle.pp_seats.specs.Seats.{is_silent}
use Rattle.pp_seats.specs.declared.seat.Seat.{Seat}
use Rattle.pp_state.specs.Hearing.{may_end}
use Rattle.pp_turns_law.specs.Marks.{AreLoud}
use Rattle.pp_turns_law.specs.Turns.{ShowsTurn}

-- ---- who is looked at

-- the places of those who are looked at rise, and the others are silent
pub record AreLookedAt (awake : List ℕ) (seats : List Seat) : Type 0 where
  pub order : AreGiven 0 (length seats) awake
  pub others : (i : ℕ) (seat : Seat) → slice_get seats i ≡ Some seat → has_number i awake ≡ false → is_silent seat ≡ true

-- ---- whose reply is over

-- the next request can stand behind this one: its end is known, and requests can be counted still
pub record HasNext (seat : Seat) (c : Client) : Type 0 where
  pub request : Parsed
  pub front : c.front ≡ IsRequest request
  pub known : is_ok request.rule ≡ true
  pub counted : seat.index + 1 ≤ 2 ^ 64 - 1

abbrev pub MayGoOn : Seat → Client → Type 0
MayGoOn seat c = c.closes ≡ false → HasNext seat c

-- where no byte was said now, one that is passed, of which the end came
pub record IsOver (seat : Seat) (c : Client) : Type 0 where
  pub passed : may_end seat ≡ true
  pub next : MayGoOn seat c

-- ---- what replies end in

-- what each client that goes on follows is there; a request has one exchange at most, and of one without a place nothing was asked
pub record MayLeave (x : Sides) (s : State) : Type 0 where
  pub follow : AllFollow x.parts s
  pub once : (n : ℕ) → count_by (is_of n) s.exchanges ≤ 1
  pub rests : (n : ℕ) (e : Exchange) → exchange s n ≡ Some e → e.place ≡ None → (e.asked == 0) ≡ true

abbrev pub AllMayEnd : Sides → State → Type 0
AllMayEnd x s = (i : ℕ) (seat : Seat) (c : Client) → IsAtPlace i x.parts s seat c → c.is_closing ≡ false → is_said seat.client.reply ≡ true → IsOver seat c

-- behind it all is shown, and leaves as before; clients, exchanges, connections and what is in memory alone changed
pub record HasEnded (number : ℕ → ℕ) (name : Bytes) (y : Sides) (s t : State) : Type 0 where
  pub shows : ShowsSides number name y t
  pub may : MayLeave y t
  pub rest : t ≡ record s { clients = t.clients; conns = t.conns; exchanges = t.exchanges; instances = t.instances; chunks = t.chunks }

-- ---- a read, or an end: each reply that is over is passed, and of several clients at once

abbrev pub RepliesEndAsTheLaws : Type 0
RepliesEndAsTheLaws = OfSides (λ number name x s. (awake : List ℕ) (y : Sides) → AreLookedAt awake x.parts.seats → MayLeave x s → AllMayEnd x s → EndsReplies awake x y → HasEnded number name y s (end_replies s))

-- in a turn
pub record ShowsDesk (number : ℕ → ℕ) (d : Desk) (s : State) : Type 0 where
  pub turn : ShowsTurn number none_leaves d.peers d.state s
  pub may : MayClose s

abbrev pub DesksEndAsTheLaws : Type 0
DesksEndAsTheLaws = (number : ℕ → ℕ) (d e : Desk) (s : State) → ShowsDesk number d s → AreLoud d.state → MayLeave (sides d) s → AllMayEnd (sides d) s → EndsReplies d.state.awake.items (sides d) (sides e) → KeepsDesk d e → IsBounded e.state.cache
    → ShowsDesk number e (end_replies s)
