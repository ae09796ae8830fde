-- What is no response, or comes before its ask was asked whole: its connection is closed (RFC 2616, sections 6 and 8.1.4).
--
-- Where the premises come from: that the connection goes on is what the program looks for before each step (`going_on`); that a head is due, or
-- is none because nothing was asked whole, is what its pipe awaits (AwaitedIsTheLaws of pp_peers_law). MayClose is of IsSoundTurn, and that
-- more of what is passed is to come while its exchange is there is of `pp_rests_law` (its Closing).
use Rattle.std.specs.Prelude.{◌≡◌, ℕ, true, false, Some}
use Rattle.pp_turns_law.specs.Sides.{OfSides, ShowsSides}
use Rattle.pp_desk.specs.Closings.{Sides}
use Rattle.pp_law.specs.Connections.{close_conn, conn, front_of_line, is_outstanding}
use Rattle.pp_law.specs.Responses.{bad_head, bad_response as law_bad_response, is_early}
use Rattle.pp_law.specs.Stages.{is_headed}
use Rattle.pp_law.specs.State.{State, Conn, Exchange}
use Rattle.pp_origins.specs.Responses.{bad_response}
use Rattle.pp_peers.specs.Peers.{with_pipe}
use Rattle.pp_pipe.specs.Line.{Line}

-- a connection that goes on
pub record IsOpen (s : State) (n : ℕ) (k : Conn) : Type 0 where
  pub there : conn s n ≡ Some k
  pub goes_on : k.is_closing ≡ false

-- and the first exchange of its line, which was asked whole
pub record IsDue (s : State) (n : ℕ) (k : Conn) (e : Exchange) : Type 0 where
  pub on : IsOpen s n k
  pub front : front_of_line s k ≡ Some e
  pub whole : is_outstanding e ≡ true

-- its pipe is as it may be: of a connection that is closed nobody reads it
abbrev pub piped : ℕ → Line → Sides → Sides
piped n line x = record x { peers = with_pipe n line x.peers }

-- before any of its line was asked whole it answers nobody, and costs nobody
abbrev pub EarlyOnesAreTheLaws : Type 0
EarlyOnesAreTheLaws = OfSides (λ number name x s. (n : ℕ) (k : Conn) (line : Line) → IsOpen s n k → is_early s k ≡ true → ShowsSides number name (bad_response n (piped n line x)) (close_conn true k s))

-- where no head came yet. Behind a whole response on this connection it may be the rest of that: its request is asked elsewhere
abbrev pub BadHeadsAreTheLaws : Type 0
BadHeadsAreTheLaws = OfSides (λ number name x s. (n : ℕ) (k : Conn) (e : Exchange) (line : Line) → IsDue s n k e → is_headed e ≡ false → ShowsSides number name (bad_response n (piped n line x)) (bad_head k s))

-- and amid a body its attempts end
abbrev pub BadBodiesAreTheLaws : Type 0
BadBodiesAreTheLaws = OfSides (λ number name x s. (n : ℕ) (k : Conn) (e : Exchange) (line : Line) → IsDue s n k e → is_headed e ≡ true → ShowsSides number name (bad_response n (piped n line x)) (law_bad_response k s))
