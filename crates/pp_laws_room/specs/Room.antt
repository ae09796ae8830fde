-- How many chunks are used at most in each phase of a turn. All of it is ours.
use Rattle.std.specs.Prelude.{◌≡◌, ◌≤◌, ◌+◌, ◌||◌, false, length, List}
use Rattle.pp_law.specs.Opening.{is_at}
use Rattle.pp_law.specs.Phases.{is_free}
use Rattle.pp_law.specs.State.{State, Term, Handling, Evicting}
use Rattle.pp_obeys.specs.Obeys.{Obeys}
use Rattle.pp_world.specs.Log.{Log}
use Rattle.pp_laws_pool.specs.Pool.{IsWithinMark}

pub record HasRoom (s : State) : Type 0 where
  -- the critical mark is 512 at least
  pub mark : 512 ≤ s.settings.critical
  pub within : IsWithinMark s
  -- where an event is awaited, and once chunks left memory, there is room for 32 more
  pub waits : (is_at Handling s || is_at Evicting s) ≡ false → length s.chunks + 32 ≤ s.settings.critical
  -- and while something is owed to the event, one chunk may have come from the disk
  pub owes : is_free s.owed ≡ false → length s.chunks + 31 ≤ s.settings.critical

-- so each state that a lawful log may go on as from
abbrev pub TurnsLeaveRoom : Type 0
TurnsLeaveRoom = (terms : List Term) (s : State) (log : Log) → Obeys terms s log → HasRoom s
