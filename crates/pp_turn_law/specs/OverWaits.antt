-- What goes from one wait to the next: no origin gets the number of a client that was read; and where few names are noted before a wait, a name
-- of each row may be noted behind it (ours).
--
-- Where the premises come from: HasServedOn of Served is where the turn behind the wait leads, which Handled, Called and Served join; its log
-- goes on from the wait. Decisions and rounds note so few names (MayNote of `pp_given_law`).
use Rattle.std.specs.Prelude.{◌≡◌, ◌≤◌, ◌++◌, ℕ, length, take, [], ◌∷◌}
use Rattle.pp_desk.specs.declared.desk.Desk.{Desk}
use Rattle.pp_given_law.specs.MayNote.{most_names}
use Rattle.pp_joints_law.specs.Behind.{MayNote}
use Rattle.pp_law.specs.State.{State}
use Rattle.pp_obeys.specs.Obeys.{Life}
use Rattle.pp_proxy.specs.Awaiting.{Awaits, Rests, Standing}
use Rattle.pp_proxy.specs.Moving.{Turning}
use Rattle.pp_turn_law.specs.Awaited.{awaiting}
use Rattle.pp_turn_law.specs.Served.{HasServedOn}
use Rattle.pp_turn_law.specs.Waited.{StandsAtWait}
use Rattle.pp_waits_law.specs.Waits.{OriginsAreApart}
use Rattle.pp_world.specs.Log.{Log}
use Rattle.pp_world.specs.declared.event.Wants.{Wants}
use Rattle.pp_world.specs.declared.happening.Happening.TheVariants.{Waits}

-- ---- `apart` of Again.`StandsForNext`, of those that are read from then on

abbrev pub OriginsAreApartAgain : Type 0
OriginsAreApartAgain = (life : Life) (budget : ℕ) (log before hs : Log) (x : Standing) (w : Wants) (clients : ℕ) (e f : Desk) (y : Turning) (s t : State) → StandsAtWait life budget log x s → Awaits x.read w clients x.turning.moving.desk e → Rests w clients e f
    → before ≡ (log ++ Waits w ∷ []) ++ hs → HasServedOn life budget before y t → OriginsAreApart (take clients w.read.items) y.moving.desk

-- ---- where an event comes

abbrev pub NamesHaveRoomBehind : Type 0
NamesHaveRoomBehind = (life : Life) (budget : ℕ) (log all : Log) (faults : ℕ) (x : Standing) (w : Wants) (clients : ℕ) (e f : Desk) (s : State) → StandsAtWait life budget log x s → length x.turning.moving.desk.state.cache.outdated ≤ most_names → Awaits x.read w clients x.turning.moving.desk e → Rests w clients e f
    → MayNote (awaiting x f all faults).moving
