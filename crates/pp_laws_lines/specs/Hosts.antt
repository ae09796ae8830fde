-- Where the lines of connections go: to the host and port that the connection was dialled to (RFC 2616, sections 5.1.2 and 8.1).
use Rattle.std.specs.Prelude.{◌≡◌, ℕ, List, ◌∷◌, ◌++◌}
use Rattle.pp_law.specs.Lawful.{Lawful}
use Rattle.pp_law.specs.Lists.{Bytes}
use Rattle.pp_law.specs.State.{Term, Conn, Exchange}
use Rattle.pp_world.specs.Log.{Log}
use Rattle.pp_world.specs.declared.happening.Happening.TheVariants.{Dialled}
use Rattle.pp_laws.specs.Runs.{IsIn, state_after}

-- it stands in the log that the connection of that number was dialled to that host and port
pub record WasDialled (log : Log) (number : ℕ) (host : Bytes) (port : ℕ) : Type 0 where
  pub front : Log
  pub behind : Log
  pub parts : front ++ Dialled number host port ∷ behind ≡ log

-- at each moment of a lawful log: each exchange in the line of a connection is for the host and port of that connection
abbrev pub LinesGoToTheirHosts : Type 0
LinesGoToTheirHosts = (terms : List Term) (log : Log) → Lawful terms log → (k : Conn) (e : Exchange) → IsIn k (state_after terms log).conns → IsIn e (state_after terms log).exchanges → IsIn e.number k.line → (e.key.host ≡ k.host) × (e.key.port ≡ k.port)

-- and each connection was dialled to the host and port that it has
abbrev pub ConnectionsWereDialled : Type 0
ConnectionsWereDialled = (terms : List Term) (log : Log) → Lawful terms log → (k : Conn) → IsIn k (state_after terms log).conns → WasDialled log k.number k.host k.port

-- and over all lives no number is dialled to two: the host and port that a connection was dialled to are the only ones
abbrev pub NumbersAreDialledOnce : Type 0
NumbersAreDialledOnce = (terms : List Term) (log : Log) → Lawful terms log → (number : ℕ) (host other_host : Bytes) (port other_port : ℕ) → WasDialled log number host port → WasDialled log number other_host other_port → (host ≡ other_host) × (port ≡ other_port)
