-- What is asked on a connection (RFC 2616, sections 5 and 8.1.2.2).
use Rattle.std.specs.Prelude.{◌≡◌, ℕ, ◌-◌, ◌≤◌, false, List, [], ◌∷◌, length, take, Some, ⊤}
use Rattle.pp_law.specs.Asking.{asking, ask_next, left_to_ask}
use Rattle.pp_law.specs.Connections.{conn, is_outstanding}
use Rattle.pp_law.specs.Lists.{has_number}
use Rattle.pp_law.specs.State.{State, Exchange, Conn}
use Rattle.pp_peers.specs.declared.peers.Peer.{Peer}
use Rattle.pp_peers_law.specs.Peers.{ShowsConn, ShowsPipe}
use Rattle.pp_pipe.specs.Line.{taken}

-- the text of this exchange is asked next on the connection
pub record IsTextNext (s : State) (k : Conn) (e : Exchange) : Type 0 where
  pub there : conn s k.number ≡ Some k
  pub next : asking s k.number ≡ Some e
  pub of_text : is_outstanding e ≡ false

-- what the law has left of it stands first in the pipe
abbrev pub LinesAreTheLaws : Type 0
LinesAreTheLaws = (s : State) (p : Peer) (k : Conn) (e : Exchange) → ShowsConn s p k → k.is_closing ≡ false → IsTextNext s k e → take (length e.text - e.asked) p.pipe.out ≡ left_to_ask s e

-- no exchange stands twice in a line
abbrev pub AreDistinct : List ℕ → Type 0
AreDistinct [] = ⊤
AreDistinct (n ∷ ns) = (has_number n ns ≡ false) × AreDistinct ns

-- where so many bytes of it were written, the pipe shows what the law makes of the line
abbrev pub AsksAreTheLaws : Type 0
AsksAreTheLaws = (s : State) (p : Peer) (k : Conn) (e : Exchange) (m : ℕ) → ShowsConn s p k → k.is_closing ≡ false → IsTextNext s k e → AreDistinct k.line → m ≤ length (left_to_ask s e)
    → ShowsPipe (ask_next e m s) (record p { pipe = taken m p.pipe }) k
