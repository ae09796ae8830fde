-- Of the response that comes on a connection less came than came there: its head came before (RFC 2616, section 6).
use Rattle.std.specs.Prelude.{◌≡◌, ◌<◌, length, List, Some}
use Rattle.pp_law.specs.Lawful.{Lawful}
use Rattle.pp_law.specs.State.{Answer, Conn, Term}
use Rattle.pp_world.specs.Log.{Log}
use Rattle.pp_world.specs.Streams.{got}
use Rattle.pp_laws.specs.Runs.{IsIn, state_after}

-- at each moment of a lawful log
abbrev pub BodiesAreLess : Type 0
BodiesAreLess = (terms : List Term) (log : Log) → Lawful terms log → (k : Conn) (a : Answer) → IsIn k (state_after terms log).conns → k.answer ≡ Some a → length a.raw < length (got k.number log)
