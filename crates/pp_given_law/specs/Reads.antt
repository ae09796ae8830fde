-- Of what is dropped as much is counted as came, behind all of the read of an origin that brings bytes, from the wait on (RFC 2616, sections 4.4
-- and 8.1.4; ours): at each of its moments (Pieces), behind the last step, which takes what is left, and as replies that are over end.
--
-- Where the premises come from: as in `Counts` and `Came`. All of the read stands between where it began and where it is handled: IsReadThrough of
-- Readable of `pp_reads_law`.
use Rattle.std.specs.Prelude.{ℕ, List}
use Rattle.pp_events_law.specs.Stands.{HasLedBehind, StandsAtEvent}
use Rattle.pp_law.specs.Lists.{Bytes}
use Rattle.pp_law.specs.State.{State, Awaiting, Free, Term}
use Rattle.pp_laws_sides.specs.Counts.{IsShortLog}
use Rattle.pp_obeys.specs.Obeys.{Obeys}
use Rattle.pp_proxy.specs.Moving.{Turning}
use Rattle.pp_reads_law.specs.Readable.{IsReadAwake}
use Rattle.pp_stays_law.specs.Turns.{AreCounted}
use Rattle.pp_world.specs.Log.{Log}
use Rattle.pp_world.specs.declared.happening.Happening.TheVariants.{CanRead}

-- the numbers of rows may be others behind it
abbrev pub CountedAsRead : Type 0
CountedAsRead = (terms : List Term) (log : Log) (number other : ℕ → ℕ) (k : ℕ) (x y : Turning) (s : State) (bytes : Bytes) → Obeys terms s log → IsShortLog log → StandsAtEvent number Awaiting Free x.moving s → (it : HasLedBehind other (CanRead k) x y s) → IsReadAwake k x y s bytes it.handled.handled
    → AreCounted x.moving.desk.state s → AreCounted y.moving.desk.state it.handled.handled
