-- Who is looked at, and that the others are silent (ours).
use Rattle.std.specs.Prelude.{◌≡◌, ◌<◌, ℕ, false, length, filter}
use Rattle.pp_due.specs.Waits.{is_loud}
use Rattle.pp_state.specs.Numbers.{places, with_number}
use Rattle.pp_state.specs.declared.state.State.{State as Turn}
use Rattle.pp_turns_law.specs.Firsts.{AreAwake}
use Rattle.pp_turns_law.specs.Marks.{AreLoud}

-- as the calls say it: those at these places are looked at, and all else stays
abbrev pub IsLookedAt : Turn → Turn → Type 0
IsLookedAt p q = record q { awake = p.awake } ≡ p

-- from a wait on, those that are not silent
abbrev pub LoudStayAwake : Type 0
LoudStayAwake = (p q : Turn) → AreLoud p → q.awake.items ≡ filter (is_loud p.seats.items) p.awake.items → IsLookedAt p q → AreLoud q

-- one more
abbrev pub RousedIsAwake : Type 0
RousedIsAwake = (p q : Turn) (i : ℕ) → AreLoud p → i < length p.seats.items → q.awake.items ≡ with_number i p.awake.items → IsLookedAt p q → AreLoud q

-- the clock did not tick
abbrev pub LoudAreAwake : Type 0
LoudAreAwake = (p : Turn) → AreLoud p → p.is_ticked ≡ false → AreAwake p

-- or all are
abbrev pub AllAreAwake : Type 0
AllAreAwake = (p : Turn) → p.awake.items ≡ places (length p.seats.items) → AreAwake p

-- and whoever is not is silent
abbrev pub AwakeAreLoud : Type 0
AwakeAreLoud = (p : Turn) → AreAwake p → AreLoud p
