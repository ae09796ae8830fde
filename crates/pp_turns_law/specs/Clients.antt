-- A client is closed, and leaves its exchange (RFC 2616, section 8.1.4).
use Rattle.std.specs.Prelude.{◌≡◌, ◌≤◌, ◌==◌, ℕ, Bool, true, false, count_by, find, Some, None}
use Rattle.pp_turns_law.specs.Decides.{FollowsWhatIsThere, IsAtPlace}
use Rattle.pp_law.specs.Closing.{close_client, is_of}
use Rattle.pp_law.specs.State.{State, Client, Exchange}
use Rattle.pp_desk.specs.Closings.{Sides, closed_client}
use Rattle.pp_seats.specs.declared.seat.Seat.{Seat}
use Rattle.pp_turns_law.specs.Sides.{OfSides, ShowsSides}

-- the exchange of the request of a client
abbrev pub IsAskOf : State → Client → Exchange → Type 0
IsAskOf s c e = find (is_of c.number) s.exchanges ≡ Some e

-- the client at a place goes on, what it follows is there, and it has one exchange at most, of which nothing was asked where that has
-- no place
pub record MayBeClosed (i : ℕ) (x : Sides) (s : State) (seat : Seat) (c : Client) : Type 0 where
  pub place : IsAtPlace i x.parts s seat c
  pub going : c.is_closing ≡ false
  pub there : FollowsWhatIsThere i x.parts
  pub once : count_by (is_of c.number) s.exchanges ≤ 1
  pub rests : (e : Exchange) → IsAskOf s c e → e.place ≡ None → (e.asked == 0) ≡ true

-- where of its exchange nothing was asked, that is over; where something was, it is nobody's
abbrev pub ClientsLeaveAsTheLaws : Type 0
ClientsLeaveAsTheLaws = OfSides (λ number name x s. (i : ℕ) (is_cut : Bool) (seat : Seat) (c : Client) → MayBeClosed i x s seat c → ShowsSides number name (closed_client i x) (close_client c.number is_cut s))
