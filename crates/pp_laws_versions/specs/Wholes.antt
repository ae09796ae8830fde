-- Of a chunk that is kept on the disk all is in memory, or nothing (ours): a run is sealed of whole chunks, chunks leave memory whole, what is
-- read back is as long as it was, and below the extent none joins.
use Rattle.std.specs.Prelude.{◌≡◌, ◌<◌, ◌≤◌, ◌⊎◌, ◌-◌, ◌*◌, ℕ, List, min, Some}
use Rattle.pp_law.specs.Chunks.{chunk_len, filled}
use Rattle.pp_law.specs.State.{State, Term, Instance}
use Rattle.pp_law.specs.Table.{extent_of, instance}
use Rattle.pp_obeys.specs.Obeys.{Obeys}
use Rattle.pp_world.specs.Log.{Log}

abbrev pub AreAllOrNone : State → Type 0
AreAllOrNone s = (id i : ℕ) (x : Instance) → instance s id ≡ Some x → i * chunk_len < extent_of s x → (filled id i s.chunks ≡ 0) ⊎ (min chunk_len (x.version.length - i * chunk_len) ≤ filled id i s.chunks)

-- in each state that a lawful log may go on as from
abbrev pub TurnsHoldAllOrNone : Type 0
TurnsHoldAllOrNone = (terms : List Term) (s : State) (log : Log) → Obeys terms s log → AreAllOrNone s
