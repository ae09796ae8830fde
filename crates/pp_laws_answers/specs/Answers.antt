-- A response that comes is that to the first exchange of the line of its connection, whose text was asked whole before (RFC 2616, sections 6 and
-- 8.1.2.2).
use Rattle.std.specs.Prelude.{◌≡◌, ℕ, true, List, ◌∷◌, Some}
use Rattle.pp_law.specs.Connections.{exchange, is_outstanding}
use Rattle.pp_law.specs.State.{State, Answer, Conn, Exchange, Term}
use Rattle.pp_laws.specs.Runs.{IsIn}
use Rattle.pp_obeys.specs.Obeys.{Obeys}
use Rattle.pp_world.specs.Log.{Log}

-- its line has a first, and where the exchange of that number is there, it was asked whole
pub record IsToFirst (s : State) (k : Conn) : Type 0 where
  pub number : ℕ
  pub others : List ℕ
  pub line : k.line ≡ number ∷ others
  pub whole : (e : Exchange) → exchange s number ≡ Some e → is_outstanding e ≡ true

-- between two turns, and amid one
abbrev pub AnswersAreToFirsts : Type 0
AnswersAreToFirsts = (terms : List Term) (s : State) (log : Log) → Obeys terms s log → (k : Conn) (a : Answer) → IsIn k s.conns → k.answer ≡ Some a → IsToFirst s k
