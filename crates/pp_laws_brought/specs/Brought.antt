-- How much is still to come of a response whose body belongs to an instance (RFC 2616, section 4.4; RFC 7233, sections 4.1 and 4.2).
use Rattle.std.specs.Prelude.{◌≡◌, ◌≤◌, ◌<◌, ◌+◌, ◌/◌, ◌^◌, List, Some, length, drop, ◌++◌}
use Rattle.pp_framing.specs.Rules.{body_of}
use Rattle.pp_law.specs.Lists.{Bytes}
use Rattle.pp_law.specs.Responses.{payload_of}
use Rattle.pp_law.specs.Stages.{bound_of}
use Rattle.pp_law.specs.State.{State, Term, Answer, Bound, Conn, Exchange}
use Rattle.pp_laws.specs.Runs.{IsIn}
use Rattle.pp_obeys.specs.Obeys.{Obeys}
use Rattle.pp_valid.specs.declared.version.Version.{Version}
use Rattle.pp_world.specs.Log.{Log}

-- its next offset is at its end at the latest; ours: no version has more than 2^30 bytes, and the pool numbers each of its chunks
pub record IsInOrder (b : Bound) : Type 0 where
  pub order : b.next ≤ b.to
  pub short : b.to ≤ 2 ^ 30
  pub near : b.next / 4096 < 2 ^ 32

-- in each state that a lawful log may go on as from, of each exchange whose body belongs to an instance
abbrev pub BoundsAreInOrder : Type 0
BoundsAreInOrder = (terms : List Term) (s : State) (log : Log) → Obeys terms s log → (e : Exchange) (b : Bound) → IsIn e s.exchanges → bound_of e ≡ Some b → IsInOrder b

-- where one of a line is bound and its connection is answered: whatever bytes follow, the data that they bring are no more than
-- those that are still to come
abbrev pub DataFit : Type 0
DataFit = (terms : List Term) (s : State) (log : Log) → Obeys terms s log → (k : Conn) (e : Exchange) (a : Answer) (b : Bound) → IsIn k s.conns → IsIn e s.exchanges → IsIn e.number k.line → k.answer ≡ Some a → bound_of e ≡ Some b
    → (bytes : Bytes) → b.next + length (drop (length (payload_of a)) (body_of a.rule (a.raw ++ bytes)).payload) ≤ b.to

-- and none behind the end of the version that the answer is of
abbrev pub DataStayWithin : Type 0
DataStayWithin = (terms : List Term) (s : State) (log : Log) → Obeys terms s log → (k : Conn) (e : Exchange) (a : Answer) (b : Bound) (v : Version) → IsIn k s.conns → IsIn e s.exchanges → IsIn e.number k.line → k.answer ≡ Some a → bound_of e ≡ Some b → a.version ≡ Some v → b.to ≤ v.length
