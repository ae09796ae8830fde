-- What was asked on a connection, as one stream (RFC 2616, sections 5 and 8.1.2.2).
use Rattle.std.specs.Prelude.{◌≡◌, ℕ, ◌≤◌, List, [], ◌∷◌, ◌++◌, length}
use Rattle.pp_law.specs.Lawful.{Lawful}
use Rattle.pp_law.specs.Lists.{Bytes}
use Rattle.pp_law.specs.State.{State, Term, Conn, Exchange}
use Rattle.pp_world.specs.Log.{Log}
use Rattle.pp_world.specs.Streams.{asked}
use Rattle.pp_laws.specs.Runs.{IsIn, state_after}

-- the exchange stands in the line of that connection, and nothing of it was asked there
pub record IsToAsk (s : State) (number : ℕ) (e : Exchange) : Type 0 where
  pub there : IsIn e s.exchanges
  pub conn : Conn
  pub conn_there : IsIn conn s.conns
  pub numbered : conn.number ≡ number
  pub line : IsIn e.number conn.line
  pub unasked : e.asked ≡ 0

-- at a moment of the log
pub record WasToAsk (terms : List Term) (log : Log) (number : ℕ) (e : Exchange) : Type 0 where
  pub front : Log
  pub behind : Log
  pub parts : front ++ behind ≡ log
  pub then : IsToAsk (state_after terms front) number e

-- an exchange as it stood then, and what was asked behind its text, of the body of its request
pub record Ask : Type 0 where
  pub exchange : Exchange
  pub body : Bytes

-- one behind the other
abbrev pub joined : List Ask → Bytes
joined [] = []
joined (a ∷ asks) = (a.exchange.text ++ a.body) ++ joined asks

-- all of the body that its request still had to bring
pub record IsWhole (terms : List Term) (log : Log) (number : ℕ) (a : Ask) : Type 0 where
  pub stood : WasToAsk terms log number a.exchange
  pub whole : length a.body ≡ a.exchange.body_left

-- each of them
abbrev pub AreWhole : List Term → Log → ℕ → List Ask → Type 0
AreWhole terms log number [] = Unit {0}
AreWhole terms log number (a ∷ asks) = IsWhole terms log number a × AreWhole terms log number asks

-- the front of one more: nothing, or of its text, or its text and of its body
pub data IsFront (terms : List Term) (log : Log) (number : ℕ) (bytes : Bytes) : Type 0 where
  nothing : bytes ≡ [] → IsFront terms log number bytes
  of_text : (e : Exchange) (rest : Bytes) → WasToAsk terms log number e → e.text ≡ bytes ++ rest → IsFront terms log number bytes
  of_body : (e : Exchange) (body : Bytes) → WasToAsk terms log number e → bytes ≡ e.text ++ body → length body ≤ e.body_left → IsFront terms log number bytes

-- whole asks of exchanges of its line, one behind the other, and the front of one more
pub record IsOneStream (terms : List Term) (log : Log) (number : ℕ) (bytes : Bytes) : Type 0 where
  pub asks : List Ask
  pub whole : AreWhole terms log number asks
  pub last : Bytes
  pub front : IsFront terms log number last
  pub all : bytes ≡ joined asks ++ last

abbrev pub AsksAreOneStream : Type 0
AsksAreOneStream = (terms : List Term) (log : Log) (number : ℕ) → Lawful terms log → IsOneStream terms log number (asked number log)
