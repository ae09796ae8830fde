-- How far counts get: with each happening, and the phases that it goes through, so many further at most (ours).
use Rattle.std.specs.Prelude.{◌+◌, ◌*◌, ◌≤◌, ◌<◌, ◌^◌, length, List}
use Rattle.pp_law.specs.State.{State, Term, Client}
use Rattle.pp_laws.specs.Runs.{IsIn}
use Rattle.pp_obeys.specs.Obeys.{Obeys}
use Rattle.pp_world.specs.Log.{Log}

-- in the phases behind a happening each of at most 256 clients asks as a follower, once more where a dial failed, and one by a decision: this has
-- room for all of them in each phase
abbrev pub ExchangesAreCounted : Type 0
ExchangesAreCounted = (terms : List Term) (s : State) (log : Log) → Obeys terms s log → s.next_exchange ≤ 4096 * (length log + 1)

-- a read of at most 32,768 bytes brings no more heads than bytes, and each head two rows at most: one that comes into memory, and one that is new
abbrev pub RowsAreCounted : Type 0
RowsAreCounted = (terms : List Term) (s : State) (log : Log) → Obeys terms s log → s.next_instance ≤ 65536 * length log

-- of each of at most 256 clients a reply may end
abbrev pub RequestsAreCounted : Type 0
RequestsAreCounted = (terms : List Term) (s : State) (log : Log) → Obeys terms s log → (c : Client) → IsIn c s.clients → c.index ≤ 256 * length log

-- a million happenings a second come to so many in 35 years
abbrev pub IsShortLog : Log → Type 0
IsShortLog log = length log < 2 ^ 50

-- below the half of what 64 bits hold
pub record AreFarFromTheirEnds (s : State) : Type 0 where
  pub exchanges : s.next_exchange < 2 ^ 63
  pub requests : (c : Client) → IsIn c s.clients → c.index < 2 ^ 63

abbrev pub CountsAreFarFromTheirEnds : Type 0
CountsAreFarFromTheirEnds = (terms : List Term) (s : State) (log : Log) → Obeys terms s log → IsShortLog log → AreFarFromTheirEnds s
