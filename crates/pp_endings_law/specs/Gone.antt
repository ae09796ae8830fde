-- The connection of an origin ended, or broke: a clean end may end the body of the response that was begun there, and the rest of its
-- line is asked elsewhere (RFC 2616, sections 4.4, 8.1 and 8.1.4).
--
-- Where the premises come from: that the first of the line is there, and that it was asked whole where an answer was begun, is of
-- `IsSoundTurn` of pp_laws_turn (`lined`, `placed`; `apart.conns`) with what a response is permitted for (`is_outstanding`); `once` is its own.
-- That the connection goes on is what the program looks for before (`goes_on`).
use Rattle.std.specs.Prelude.{◌≡◌, ◌≤◌, ℕ, Bool, true, false, count_by, List, ◌∷◌, Some}
use Rattle.pp_turns_law.specs.Sides.{OfSides, ShowsSides}
use Rattle.pp_desk.specs.Closings.{Sides}
use Rattle.pp_desk.specs.Replies.{EndsReplies}
use Rattle.pp_law.specs.After.{gone}
use Rattle.pp_law.specs.Closing.{is_of}
use Rattle.pp_law.specs.Connections.{conn, exchange as exchange_of, is_outstanding}
use Rattle.pp_law.specs.Responses.{ended}
use Rattle.pp_law.specs.State.{State, Answer, Conn, Exchange}
use Rattle.pp_origins.specs.Responses.{origin_gone}
use Rattle.pp_endings_law.specs.Replies.{AllMayEnd, AreLookedAt, HasEnded, MayLeave}

-- a response that was begun is the answer to the first exchange of its line, which was asked whole
pub record IsAnswering (s : State) (k : Conn) : Type 0 where
  pub first : Exchange
  pub others : List ℕ
  pub line : k.line ≡ first.number ∷ others
  pub known : exchange_of s first.number ≡ Some first
  pub whole : is_outstanding first ≡ true

-- a connection that goes on, while a request has one exchange at most
pub record MayBeGone (n : ℕ) (s : State) (k : Conn) : Type 0 where
  pub there : conn s n ≡ Some k
  pub goes_on : k.is_closing ≡ false
  pub answers : (a : Answer) → k.answer ≡ Some a → IsAnswering s k
  pub once : (m : ℕ) → count_by (is_of m) s.exchanges ≤ 1

-- by its end, and where it is not clean by its break
abbrev pub EndsAreTheLaws : Type 0
EndsAreTheLaws = OfSides (λ number name x s. (is_clean : Bool) (n : ℕ) (k : Conn) → MayBeGone n s k → ShowsSides number name (origin_gone is_clean n x) (ended is_clean k s))

-- and then replies end: of its client one that came whole by it
abbrev pub GonesAreTheLaws : Type 0
GonesAreTheLaws = OfSides (λ number name x s. (is_clean : Bool) (n : ℕ) (k : Conn) (awake : List ℕ) → MayBeGone n s k → AreLookedAt awake (origin_gone is_clean n x).parts.seats → MayLeave (origin_gone is_clean n x) (ended is_clean k s)
    → AllMayEnd (origin_gone is_clean n x) (ended is_clean k s) → (y : Sides) → EndsReplies awake (origin_gone is_clean n x) y → HasEnded number name y (ended is_clean k s) (gone is_clean n s))
