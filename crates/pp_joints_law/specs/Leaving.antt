-- From an event that is handled to where the disk is next: attempts count anew, and what leaves memory leaves it (ours).
use Rattle.std.specs.Prelude.{◌≡◌, ◌⊎◌, ℕ, List, None}
use Rattle.pp_evicting_law.specs.Evicting.{HasLeft, IsDoneWithEvent, MayLeave}
use Rattle.pp_joints_law.specs.Carried.{IsCarried}
use Rattle.pp_law.specs.Replies.{regained}
use Rattle.pp_law.specs.State.{State, Term}
use Rattle.pp_obeys.specs.Obeys.{Obeys}
use Rattle.pp_proxy.specs.Leaving.{Leaves}
use Rattle.pp_proxy.specs.Moving.{Moving}
use Rattle.pp_state.specs.Pins.{pins}
use Rattle.pp_steps.specs.Evicting.{next_victim}
use Rattle.pp_store.specs.Kept.{KeptMap}
use Rattle.pp_world.specs.Log.{Log}

-- ---- memory may be left

-- as `MayLeave` of `pp_evicting_law` has both: none is forgotten, and no mark was reached, where an event is awaited; and an event leaves it so
-- (Behind, and ReadsCome where bytes of an origin come)
pub record IsToLeave (x : Moving) (handled : State) : Type 0 where
  pub forgotten : x.desk.state.forgotten ≡ handled.forgotten
  pub evicting : (x.desk.state.is_evicting ≡ handled.is_evicting) ⊎ (next_victim (pins x.desk.state) x.desk.state.floor x.desk.state.cache.chunks ≡ None)

-- beside a log that goes on as from there, where attempts count anew: next bytes are of bodies that are short enough (`pp_laws_decided`,
-- `pp_laws_fields`), and so is what comes (`pp_laws_brought`); there is no more of anything than so many (`pp_laws_turn`); and an exchange that is
-- nobody's and has no place is one of a follower (`pp_laws_coming`)
abbrev pub MemoryMayBeLeft : Type 0
MemoryMayBeLeft = (terms : List Term) (log : Log) (number : ℕ → ℕ) (shelf : KeptMap) (x : Moving) (handled : State) → Obeys terms (regained handled) log → IsDoneWithEvent number x handled → IsCarried shelf x handled → IsToLeave x handled → MayLeave x handled

-- ---- and what is carried stands behind

abbrev pub LeavingsCarry : Type 0
LeavingsCarry = (number : ℕ → ℕ) (shelf : KeptMap) (x y : Moving) (log : Log) (handled t : State) → IsDoneWithEvent number x handled → IsCarried shelf x handled → Leaves x log y → HasLeft number x y log (regained handled) t → IsCarried shelf y t
