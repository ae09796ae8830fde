-- What is on record as sent stands in the log: it is data of a response that came on a connection (RFC 2616, sections 4.4 and 6).
use Rattle.std.specs.Prelude.{◌≡◌, ℕ, ◌+◌, false, List, ◌++◌, length, Some, Ok}
use Rattle.pp_framing.specs.Framing.{rule_of}
use Rattle.pp_framing.specs.Rules.{body_of}
use Rattle.pp_framing.specs.declared.body.BodyRule.{BodyRule}
use Rattle.pp_head.specs.Read.{Whole}
use Rattle.pp_head.specs.Response.{Response, response_at}
use Rattle.pp_pipe.specs.Front.{is_interim}
use Rattle.pp_law.specs.Lawful.{Lawful}
use Rattle.pp_law.specs.Lists.{Bytes}
use Rattle.pp_law.specs.OwnHeads.{key_of, first_offset, version_in}
use Rattle.pp_law.specs.Responses.{asks_head}
use Rattle.pp_law.specs.State.{State, Sent, Term, Conn, Exchange}
use Rattle.pp_world.specs.Log.{Log}
use Rattle.pp_world.specs.Streams.{got}
use Rattle.pp_laws.specs.Runs.{IsIn, state_after}
use Rattle.pp_laws_lines.specs.Hosts.{WasDialled}

-- the exchange stands in the line of that connection
pub record IsAskedOn (s : State) (number : ℕ) (e : Exchange) : Type 0 where
  pub exchange : IsIn e s.exchanges
  pub conn : Conn
  pub there : IsIn conn s.conns
  pub numbered : conn.number ≡ number
  pub line : IsIn e.number conn.line

-- at a moment of the log
pub record WasAskedOn (terms : List Term) (log : Log) (number : ℕ) (e : Exchange) : Type 0 where
  pub front : Log
  pub behind : Log
  pub parts : front ++ behind ≡ log
  pub then : IsAskedOn (state_after terms front) number e

-- of each that was asked so: that connection was dialled to the host and port of its key
abbrev pub AsksGoToTheirHosts : Type 0
AsksGoToTheirHosts = (terms : List Term) (log : Log) (number : ℕ) (e : Exchange) → Lawful terms log → WasAskedOn terms log number e → WasDialled log number e.key.host e.key.port

-- on a connection came a final head, as an exchange of its line asked, and behind it a body. Of that body's data these bytes are a
-- part, at the offset and under the version that the head tells; and they are of the key of that very exchange, as it stood then
pub record StandsIn (came : ℕ → Bytes) (was_asked : ℕ → Exchange → Type 0) (part : Sent) : Type 0 where
  pub number : ℕ
  pub before : Bytes
  pub head : Bytes
  pub body : Bytes
  pub stream : came number ≡ before ++ head ++ body
  pub response : Response
  pub whole : response_at (head ++ body) ≡ Whole response
  pub cut : length head ≡ response.length
  pub final : is_interim response.status ≡ false
  pub ask : Exchange
  pub asked : was_asked number ask
  pub rule : BodyRule
  pub ruled : rule_of (asks_head ask) response.status response.fields ≡ Ok rule
  pub version : version_in ask response ≡ Some part.version
  pub earlier : Bytes
  pub later : Bytes
  pub found : (body_of rule body).payload ≡ earlier ++ part.bytes ++ later
  pub offset : part.at ≡ first_offset response + length earlier
  pub keyed : Exchange
  pub keyed_there : was_asked number keyed
  pub one : keyed.number ≡ ask.number
  pub key : part.key ≡ key_of keyed

-- each part of what is on record
abbrev pub SentStandsInTheLog : Type 0
SentStandsInTheLog = (terms : List Term) (log : Log) (part : Sent) → Lawful terms log → IsIn part (state_after terms log).sent → StandsIn (λ number. got number log) (WasAskedOn terms log) part
