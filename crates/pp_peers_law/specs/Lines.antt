-- What becomes of the line of a connection: an exchange comes to it, and its first is over (RFC 2616, sections 8.1.2.2 and 8.1.4).
use Rattle.std.specs.Prelude.{◌≡◌, ℕ, true, false, List, [], ◌∷◌, ◌++◌, Some}
use Rattle.pp_law.specs.Connections.{end_exchange, exchange, is_outstanding, put_on}
use Rattle.pp_law.specs.Lists.{has_number}
use Rattle.pp_law.specs.Requests.{goes_alone}
use Rattle.pp_law.specs.Responses.{asks_head}
use Rattle.pp_law.specs.State.{State, Exchange, Conn}
use Rattle.pp_peers.specs.declared.peers.Peer.{Peer}
use Rattle.pp_peers_law.specs.Asked.{AreDistinct}
use Rattle.pp_peers_law.specs.Peers.{rests_of, ShowsConn, ShowsLine, ShowsPipe}
use Rattle.pp_pipe.specs.Line.{answered, pushed}
use Rattle.pp_pipe.specs.declared.fate.Fate.{Fate}

-- an exchange that stands nowhere in it yet, and does not go alone where others are asked
pub record IsComing (s : State) (k : Conn) (e : Exchange) : Type 0 where
  pub there : exchange s e.number ≡ Some e
  pub is_new : has_number e.number k.line ≡ false
  pub with_others : k.may_pipeline ≡ true → goes_alone e.head ≡ false

-- where its text is pushed, the pipe shows the line with that exchange as its last
abbrev pub PutsAreTheLaws : Type 0
PutsAreTheLaws = (s : State) (p : Peer) (k : Conn) (e : Exchange) → ShowsConn s p k → k.is_closing ≡ false → IsComing s k e
    → ShowsPipe (put_on e.number k.number s) (record p { pipe = pushed e.text (asks_head e) p.pipe }) (record k { line = k.line ++ e.number ∷ [] })

-- the first of a line, whose text was asked whole
pub record IsAnswered (s : State) (k : Conn) (e : Exchange) (others : List ℕ) : Type 0 where
  pub line : k.line ≡ e.number ∷ others
  pub there : exchange s e.number ≡ Some e
  pub whole : is_outstanding e ≡ true
  pub once : AreDistinct k.line

-- what the pipe shows of the line behind it
pub record ShowsRest (s : State) (p : Peer) (fate : Fate) (others : List ℕ) : Type 0 where
  pub line : ShowsLine s others (answered fate p.pipe).asks
  pub stray : (answered fate p.pipe).stray ≡ 0
  pub out : (answered fate p.pipe).out ≡ rests_of s others

-- where its response is whole, the pipe shows the line without it
abbrev pub EndsAreTheLaws : Type 0
EndsAreTheLaws = (s : State) (p : Peer) (k : Conn) (e : Exchange) (others : List ℕ) (fate : Fate) → ShowsConn s p k → k.is_closing ≡ false → IsAnswered s k e others
    → ShowsRest (end_exchange e.number s) p fate others
