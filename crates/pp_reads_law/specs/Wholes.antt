-- A response is whole: the exchange is over, and the connection rests behind it or is closed (RFC 2616, sections 4.4, 8.1 and 8.1.2.2).
--
-- Where the premises come from: `may` is that of pp_endings_law Gone, and `pipelines` is of IsSoundTurn. Whether the connection stays open is
-- what its head said, as ShowsConn of pp_peers_law has it.
use Rattle.std.specs.Prelude.{◌≡◌, ◌≤◌, ℕ, false, length, Some}
use Rattle.std.specs.List.{find}
use Rattle.pp_turns_law.specs.Sides.{OfSides, ShowsSides}
use Rattle.pp_desk.specs.Closings.{Sides}
use Rattle.pp_endings_law.specs.Gone.{MayBeGone}
use Rattle.pp_law.specs.Connections.{front_of_line}
use Rattle.pp_law.specs.Responses.{finish}
use Rattle.pp_law.specs.State.{State, Answer, Conn, Exchange}
use Rattle.pp_origins.specs.Responses.{response_whole}
use Rattle.pp_peers.specs.Peers.{is_number}
use Rattle.pp_peers.specs.declared.peers.Peer.{Peer}
use Rattle.pp_pipe.specs.Front.{fate_of}
use Rattle.pp_pipe.specs.Line.{Line, answered}
use Rattle.pp_pipe.specs.Reading.{behind_it}
use Rattle.pp_reads_law.specs.Bads.{piped}

-- on a connection that goes on an answer was begun, to the first exchange of its line
pub record IsAnsweredOn (x : Sides) (s : State) (n : ℕ) (k : Conn) (a : Answer) (peer : Peer) : Type 0 where
  pub may : MayBeGone n s k
  pub answer : k.answer ≡ Some a
  pub linked : find (is_number n) x.peers ≡ Some peer
  pub pipelines : k.may_pipeline ≡ false → length k.line ≤ 1

-- its pipe told the end
abbrev pub line_behind : Answer → Peer → Line
line_behind a peer = record (answered (fate_of a.head) peer.pipe) { reading = behind_it (fate_of a.head) }

abbrev pub WholesAreTheLaws : Type 0
WholesAreTheLaws = OfSides (λ number name x s. (n : ℕ) (k : Conn) (a : Answer) (peer : Peer) (e : Exchange) → IsAnsweredOn x s n k a peer → front_of_line s k ≡ Some e
    → ShowsSides number name (response_whole n (piped n (line_behind a peer) x)) (finish k e a s))
