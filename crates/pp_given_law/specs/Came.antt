-- What came of a response can be counted in 64 bits, with all that one more read brings (RFC 2616, section 8.1.4; ours): a connection brings no more
-- than 32,768 bytes with a read, and each read has two happenings of the log, the event and what came.
--
-- Where the premises come from: that the log is short stands at each wait (`short` of BringsBytes of `pp_turn_law`).
use Rattle.std.specs.Prelude.{◌≡◌, ◌≤◌, ◌+◌, ◌-◌, ◌^◌, ℕ, length, List, Some}
use Rattle.pp_law.specs.After.{event, owing}
use Rattle.pp_law.specs.Asking.{read_limit}
use Rattle.pp_law.specs.Connections.{conn}
use Rattle.pp_law.specs.Lists.{Bytes}
use Rattle.pp_law.specs.State.{State, Answer, Conn, ReadOf, Term}
use Rattle.pp_laws.specs.Runs.{IsIn}
use Rattle.pp_laws_sides.specs.Counts.{IsShortLog}
use Rattle.pp_obeys.specs.Obeys.{Obeys}
use Rattle.pp_world.specs.Log.{Log}

-- in each state that a lawful log may go on as from
abbrev pub CameIsFew : Type 0
CameIsFew = (terms : List Term) (s : State) (log : Log) → Obeys terms s log → IsShortLog log → (k : Conn) (a : Answer) → IsIn k s.conns → k.answer ≡ Some a → length a.raw + read_limit ≤ 2 ^ 64 - 1

-- these bytes of this connection, with what came before of the response that comes there
pub record HasRoomToCount (s : State) (n : ℕ) (bytes : Bytes) : Type 0 where
  pub few : length bytes ≤ 2 ^ 64 - 1
  pub behind : (k : Conn) (a : Answer) → conn s n ≡ Some k → k.answer ≡ Some a → length a.raw + length bytes ≤ 2 ^ 64 - 1

-- so it is where a read is owed, from the wait on
abbrev pub ReadsCanBeCounted : Type 0
ReadsCanBeCounted = (terms : List Term) (s : State) (log : Log) → Obeys terms s log → IsShortLog log → (n : ℕ) (bytes : Bytes) → length bytes ≤ read_limit → HasRoomToCount (event (owing (ReadOf n) n s)) n bytes
