-- Amid the read of an origin that brings bytes, and behind it, from the wait on (RFC 2616, sections 4.4, 6, 8.1, 10.1 and 13.10; ours): at each moment
-- what is kept on the disk is the law's, and what has to leave memory is the same in both; and so it comes to what follows the event, behind which
-- replies that are over end.
--
-- Where the premises come from: those of ReadsBegin and of ReadsNoteAll. That the read has all of its moments and ends behind one (Stops of
-- `pp_reads_law`), and that the turn shows the law's state behind the event, is of HasLedToldBehind of its Readable (OriginReadsLead).
use Rattle.std.specs.Prelude.{◌≤◌, ℕ, List, length}
use Rattle.pp_desk.specs.declared.desk.Desk.{Desk}
use Rattle.pp_events_law.specs.Stands.{HasLedBehind}
use Rattle.pp_joints_law.specs.Behind.{StandsBefore}
use Rattle.pp_joints_law.specs.BehindBytes.{ComesSo}
use Rattle.pp_joints_law.specs.ReadsNoteAll.{NotesThere}
use Rattle.pp_law.specs.After.{event, owing}
use Rattle.pp_law.specs.Lists.{Bytes}
use Rattle.pp_law.specs.State.{State, Term, ReadOf}
use Rattle.pp_origins.specs.Gots.{Both, Makes, both}
use Rattle.pp_proxy.specs.Handling.{Wakes}
use Rattle.pp_proxy.specs.Moving.{Moving, Turning}
use Rattle.pp_reads_law.specs.Brings.{IsMoment}
use Rattle.pp_reads_law.specs.Readable.{IsReadAwake}
use Rattle.pp_store.specs.Kept.{KeptMap}
use Rattle.pp_world.specs.Log.{Log}
use Rattle.pp_world.specs.declared.happening.Happening.TheVariants.{CanRead}

-- each moment
abbrev pub ReadsNoteAmid : Type 0
ReadsNoteAmid = (terms : List Term) (log : Log) (number : ℕ → ℕ) (name : Bytes) (shelf : KeptMap) (k : ℕ) (x : Moving) (woken : Desk) (begins : Both) (s : State) (all : Bytes) → StandsBefore terms log number shelf x s → Wakes k x.desk woken → Makes (λ z. z) (both woken) begins
    → length x.desk.state.cache.outdated ≤ 768
    → (pieces : ℕ) (y : Both) (t : State) (bytes : Bytes) → IsMoment pieces name shelf k begins (event (owing (ReadOf k) k s)) all y t bytes → NotesThere shelf y t

-- and behind all of it
abbrev pub ReadsComeBehind : Type 0
ReadsComeBehind = (terms : List Term) (log : Log) (number other : ℕ → ℕ) (k : ℕ) (bytes : Bytes) (x y : Turning) (s : State) → StandsBefore terms log number x.shelf x.moving s → length x.moving.desk.state.cache.outdated ≤ 768 → (led : HasLedBehind other (CanRead k) x y s)
    → IsReadAwake k x y s bytes led.handled.handled → ComesSo y.moving led.handled.handled
