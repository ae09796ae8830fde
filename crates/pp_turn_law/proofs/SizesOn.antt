-- Over all of a turn the cache may have as many chunks.
use Rattle.std.proofs.Common.{ap, ℕ, Option, Some, None, sym, subst}
use Rattle.pp_desk.specs.declared.desk.Desk.{Desk}
use Rattle.pp_grown_law.proofs.Sizes.{events_sized, kept_sized, left_sized, settled_sized, sized_then, waits_sized}
use Rattle.pp_grown_law.specs.Numbered.{AreNumbered}
use Rattle.pp_grown_law.specs.Sized.{StaysSized}
use Rattle.pp_proxy.specs.Awaiting.{ComesTo, behind}
use Rattle.pp_proxy.specs.Events.{TakesEvent}
use Rattle.pp_proxy.specs.Leaving.{Leaves}
use Rattle.pp_proxy.specs.Moving.{LeadsOn, Turning, at_desk}
use Rattle.pp_proxy.specs.Settling.{Settles}
use Rattle.pp_world.specs.Log.{Log}
use Rattle.pp_world.specs.Wire.{IsNumbered}
use Rattle.pp_world.specs.declared.event.Event.{Event}
use Rattle.pp_world.specs.declared.event.Wants.{Wants}
use Rattle.pp_turn_law.proofs.Order.{handled, kept, left, waited}
use Rattle.pp_turn_law.specs.Ordered.{StandsOrdered}
use Rattle.pp_turn_law.specs.Sized.{TurnsKeepSize}

-- ---- an event, and what follows

module _ (event : Event) (log : Option Log) (faults : ℕ) (x y : Turning) (new : IsNumbered x.moving.top event) (st : StandsOrdered x.moving) (are : AreNumbered x.moving.desk.state.flow) (takes : TakesEvent event (behind event log faults x) y) where
  ordered_handled : StandsOrdered takes.handled.moving
  ordered_handled = handled event log faults x takes.handled new (takes.handles st.seated) st

  one : StaysSized x.moving.desk.state takes.handled.moving.desk.state
  one = events_sized event (behind event log faults x) takes.handled st.room are (takes.handles st.seated)

  leaves : LeadsOn Leaves takes.handled.moving takes.left.moving takes.handled.log takes.left.log takes.handled.faults takes.left.faults
  leaves = takes.leaves ordered_handled.seated

  two : StaysSized takes.handled.moving.desk.state takes.left.moving.desk.state
  two = left_sized takes.handled.moving takes.left.moving leaves.added one.numbered leaves.is

  ordered_kept : StandsOrdered takes.kept.moving
  ordered_kept = kept takes.left takes.kept takes.keeps (left takes.handled.moving takes.left.moving leaves.added leaves.is ordered_handled)

  three : StaysSized takes.left.moving.desk.state takes.kept.moving.desk.state
  three = kept_sized takes.left takes.kept two.numbered takes.keeps

  settles : LeadsOn (Settles takes.kept.shelf) takes.kept.moving y.moving takes.kept.log y.log takes.kept.faults y.faults
  settles = takes.settles ordered_kept.seated

  four : StaysSized takes.kept.moving.desk.state y.moving.desk.state
  four = settled_sized takes.kept.shelf takes.kept.moving y.moving settles.added three.numbered settles.is

  pub taken_sized : StaysSized x.moving.desk.state y.moving.desk.state
  taken_sized =
      sized_then x.moving.desk.state takes.handled.moving.desk.state y.moving.desk.state one
      (sized_then takes.handled.moving.desk.state takes.left.moving.desk.state y.moving.desk.state two (sized_then takes.left.moving.desk.state takes.kept.moving.desk.state y.moving.desk.state three four))

-- ---- over the wait too

come_sized : (w : Wants) (o : Option Event) (x y : Turning) → ComesTo w o x y → StandsOrdered x.moving → AreNumbered x.moving.desk.state.flow → StaysSized x.moving.desk.state y.moving.desk.state
come_sized w None x y it st are = record { size = ap (λ (d : Desk). d.state.cache.size) it.desk; numbered = subst AreNumbered (sym (ap (λ (d : Desk). d.state.flow) it.desk)) are }
come_sized w (Some event) x y it st are = taken_sized event it.log it.faults x y it.number st are it.takes

pub turns_size : TurnsKeepSize
turns_size result x y it st are =
    let rests : StaysSized x.turning.moving.desk.state it.rested.state = waits_sized x.read it.wants it.clients x.turning.moving.desk it.awaiting it.rested it.awaits it.rests are in
    sized_then x.turning.moving.desk.state it.rested.state y.turning.moving.desk.state rests
    (come_sized it.wants it.event (at_desk it.rested x.turning) y.turning it.comes (waited x.read it.wants it.clients x.turning.moving it.awaiting it.rested it.awaits it.rests st) rests.numbered)
