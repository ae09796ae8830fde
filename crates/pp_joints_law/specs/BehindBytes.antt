-- What is carried stands behind the read of an origin that brings bytes (ours): heads of responses, with which rows come and go, and bodies.
--
-- Where the premises come from: as in BehindEnds, but for ComesSo. The numbers of rows may be others behind it.
use Rattle.std.specs.Prelude.{◌≡◌, ◌≤◌, ℕ, List, [], ◌∷◌, length, vec_capacity, Some}
use Rattle.pp_cache_law.specs.Outdated.{AreNoted}
use Rattle.pp_events_law.specs.Stands.{HasLedBehind, come}
use Rattle.pp_joints_law.specs.Behind.{CarriesOn, HasFew, StandsBefore}
use Rattle.pp_joints_law.specs.Leaving.{IsToLeave}
use Rattle.pp_law.specs.Connections.{conn}
use Rattle.pp_law.specs.Lists.{Bytes}
use Rattle.pp_law.specs.State.{State, Conn, Term}
use Rattle.pp_proxy.specs.Handling.{Handles}
use Rattle.pp_proxy.specs.Moving.{Moving, Turning}
use Rattle.pp_store.specs.Kept.{KeptMap}
use Rattle.pp_world.specs.Log.{Log}
use Rattle.pp_world.specs.declared.event.Event.TheVariants.{Readable}
use Rattle.pp_world.specs.declared.happening.Happening.TheVariants.{CanRead, Got}

-- what ties the program to the law where rows come and go: the entry of each row that was cleared, or made anew, is noted, as none else is; and
-- what has to leave memory is the same. ReadsCome has it
pub record ComesSo (y : Moving) (handled : State) : Type 0 where
  pub noted : AreNoted y.desk.state.cache.outdated handled.displaced handled.entries
  pub leaves : IsToLeave y handled

abbrev pub OriginBytesCarry : Type 0
OriginBytesCarry = (terms : List Term) (log : Log) (number other : ℕ → ℕ) (shelf : KeptMap) (k : ℕ) (bytes : Bytes) (x y : Turning) (s : State) (j : Conn) → StandsBefore terms log number shelf x.moving s → conn s k ≡ Some j
    → length x.moving.desk.buffer.items ≤ vec_capacity x.moving.desk.«data» → Handles (Readable k) (come (Readable k) x) y → HasFew y.moving → (it : HasLedBehind other (CanRead k) x y s) → it.log ≡ Got k bytes ∷ [] → ComesSo y.moving it.handled.handled → CarriesOn shelf y.moving it.handled.handled
