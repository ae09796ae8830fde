-- Through the steps of a round memory is refused for no row.
use Rattle.std.proofs.Common.{ℕ}
use Rattle.pp_asks_law.proofs.Along.{followed-narrow, leads-narrow, next-narrow}
use Rattle.pp_asks_law.proofs.Happened.{closings_are, of_same, placed_are}
use Rattle.pp_asks_law.proofs.Keyed.{given_then, seats_given}
use Rattle.pp_asks_law.proofs.Narrow.{Narrows, narrow_same}
use Rattle.pp_asks_law.specs.Rests.{NoneIsRefused}
use Rattle.pp_asks_law.specs.Stays.{ClosingsRefuseNone, PlacesRefuseNone, SilentStepsRefuseNone}
use Rattle.pp_desk.specs.Shutting.{all_over}
use Rattle.pp_law.specs.State.{State}
use Rattle.pp_places.specs.Around.{around, moment_of}
use Rattle.pp_proxy.specs.Moving.{Moving}
use Rattle.pp_rounds_law.specs.Stands.{StandsAmid}
use Rattle.pp_store.specs.Kept.{KeptMap}

none_then : (number : ℕ → ℕ) (shelf : KeptMap) (x y : Moving) (s t : State) → StandsAmid number shelf x s → NoneIsRefused x.desk.state.seats.items → StandsAmid number shelf y t → Narrows s t → NoneIsRefused y.desk.state.seats.items
none_then number shelf x y s t amid given behind narrow =
    seats_given number y.desk.state.name.items y.desk.state.seats.items t.clients behind.turn.steps.shows.clients
    (λ c i going. given_then number x.desk.state.name.items x.desk.state.seats.items s t amid.turn.steps.shows.clients given narrow c i going)

pub silent_refuse : SilentStepsRefuseNone
silent_refuse number shelf x y s amid given behind = none_then number shelf x y s _ amid given behind (followed-narrow s (narrow_same s))

pub closings_refuse : ClosingsRefuseNone
closings_refuse number shelf x y log s t amid given closes leads behind =
    none_then number shelf x y s t amid given behind (leads-narrow log s t (of_same log _ closes.log_is (closings_are (all_over x.desk) x.links)) leads (narrow_same s))

pub places_refuse : PlacesRefuseNone
places_refuse number shelf x y log s t amid given places leads behind =
    none_then number shelf x y s _ amid given behind
    (next-narrow t (leads-narrow log s t (placed_are 65536 (moment_of x.desk.state) _ (around x.desk x.links x.top) (around y.desk y.links y.top) log places.is) leads (narrow_same s)))
