-- Over all of a turn clients stand in the order of their numbers, and a life that went astray stays so.
use Rattle.std.proofs.Common.{◌≡◌, ◌≤◌, ◌<◌, refl, sym, subst, ap, ◌∙◌, ℕ, Option, Some, None, arith}
use Rattle.pp_desk.specs.declared.desk.Desk.{Desk}
use Rattle.pp_proxy.specs.Awaiting.{Awaits, ComesTo, Rests, Standing, behind}
use Rattle.pp_proxy.specs.Events.{TakesEvent}
use Rattle.pp_proxy.specs.Leaving.{Leaves}
use Rattle.pp_proxy.specs.Moving.{LeadsOn, Turning, at_desk, with_desk}
use Rattle.pp_proxy.specs.Settling.{Settles}
use Rattle.pp_reads_law.proofs.KeysGiven.{events_give}
use Rattle.pp_rounds_law.proofs.Astray.{well_before}
use Rattle.pp_rounds_law.specs.Astray.{IsAstray}
use Rattle.pp_world.specs.Log.{Log}
use Rattle.pp_world.specs.Wire.{IsNumbered}
use Rattle.pp_world.specs.declared.event.Event.{Event}
use Rattle.pp_world.specs.declared.event.Wants.{Wants}
use Rattle.pp_turn_law.proofs.Order.{handled, kept, left, same_go, settled, waited}
use Rattle.pp_turn_law.proofs.StayAstray.{keepings, leavings, settlings}
use Rattle.pp_turn_law.specs.Ordered.{StandsOrdered, TurnsStayOrdered}
use Rattle.pp_turn_law.specs.Straight.{IsStraight, TurnsStayAstray, TurnsWereStraight, WasStraight}

-- ---- an event, and what follows

module _ (event : Event) (log : Option Log) (faults : ℕ) (x y : Turning) (new : IsNumbered x.moving.top event) (st : StandsOrdered x.moving) (takes : TakesEvent event (behind event log faults x) y) where
  abbrev came : Turning
  came = behind event log faults x

  ordered_handled : StandsOrdered takes.handled.moving
  ordered_handled = handled event log faults x takes.handled new (takes.handles st.seated) st

  leaves : LeadsOn Leaves takes.handled.moving takes.left.moving takes.handled.log takes.left.log takes.handled.faults takes.left.faults
  leaves = takes.leaves ordered_handled.seated

  ordered_kept : StandsOrdered takes.kept.moving
  ordered_kept = kept takes.left takes.kept takes.keeps (left takes.handled.moving takes.left.moving leaves.added leaves.is ordered_handled)

  settles : LeadsOn (Settles takes.kept.shelf) takes.kept.moving y.moving takes.kept.log y.log takes.kept.faults y.faults
  settles = takes.settles ordered_kept.seated

  pub taken_ordered : StandsOrdered y.moving
  taken_ordered = settled takes.kept.shelf takes.kept.moving y.moving settles.added settles.is ordered_kept

  to_handled : IsAstray came.moving → IsAstray takes.handled.moving
  to_handled is = (events_give event came takes.handled st.room (takes.handles st.seated)).astray is

  to_left : IsAstray takes.handled.moving → IsAstray takes.left.moving
  to_left is = leavings takes.handled.moving takes.left.moving leaves.added leaves.is is

  to_kept : IsAstray takes.left.moving → IsAstray takes.kept.moving
  to_kept is = keepings takes.left takes.kept takes.keeps is

  to_end : IsAstray takes.kept.moving → IsAstray y.moving
  to_end is = settlings takes.kept.shelf takes.kept.moving y.moving settles.added settles.is is

  pub taken_astray : IsAstray came.moving → IsAstray y.moving
  taken_astray is = to_end (to_kept (to_left (to_handled is)))

  module _ (well : IsStraight y) where
    well_kept : IsStraight takes.kept
    well_kept = well_before takes.kept.moving.desk.state.is_astray y.moving.desk.state.is_astray to_end well

    well_left : IsStraight takes.left
    well_left = well_before takes.left.moving.desk.state.is_astray takes.kept.moving.desk.state.is_astray to_kept well_kept

    well_handled : IsStraight takes.handled
    well_handled = well_before takes.handled.moving.desk.state.is_astray takes.left.moving.desk.state.is_astray to_left well_left

    pub all_straight : WasStraight event came y takes
    all_straight = record {
      before = well_before came.moving.desk.state.is_astray takes.handled.moving.desk.state.is_astray to_handled well_handled;
      handled = well_handled;
      left = well_left;
      kept = well_kept;
      ordered_handled = ordered_handled;
      ordered_kept = ordered_kept;
    }

pub were_straight : TurnsWereStraight
were_straight event log faults x y new st takes well = all_straight event log faults x y new st takes well

-- ---- over the wait too

wait_ordered : (x : Standing) (w : Wants) (clients : ℕ) (e f : Desk) → Awaits x.read w clients x.turning.moving.desk e → Rests w clients e f → StandsOrdered x.turning.moving → StandsOrdered (with_desk f x.turning.moving)
wait_ordered x w clients e f awaits rests st = waited x.read w clients x.turning.moving e f awaits rests st

wait_astray : (x : Standing) (w : Wants) (clients : ℕ) (e f : Desk) → Awaits x.read w clients x.turning.moving.desk e → Rests w clients e f → IsAstray x.turning.moving → IsAstray (with_desk f x.turning.moving)
wait_astray x w clients e f awaits rests is = ap (λ (d : Desk). d.state.is_astray) rests.rest ∙ ap (λ (d : Desk). d.state.is_astray) awaits.rest ∙ is

above : (a b c : ℕ) → a < b → c ≡ b → a ≤ c
above a b c less is = omega (arith, less, is)

come_ordered : (w : Wants) (o : Option Event) (x y : Turning) → ComesTo w o x y → StandsOrdered x.moving → StandsOrdered y.moving
come_ordered w None x y it st =
    subst (λ (d : Desk). StandsOrdered (record y.moving { desk = d })) (sym it.desk)
    (let stand = same_go x.moving (with_desk x.moving.desk y.moving) refl (above x.moving.top it.away.client y.moving.top it.away.number.above it.away.top) (st.seated, st.given) in
    record { seated = stand.0; given = stand.1; room = st.room })
come_ordered w (Some event) x y it st = taken_ordered event it.log it.faults x y it.number st it.takes

come_astray : (w : Wants) (o : Option Event) (x y : Turning) → ComesTo w o x y → StandsOrdered x.moving → IsAstray x.moving → IsAstray y.moving
come_astray w None x y it st is = ap (λ (d : Desk). d.state.is_astray) it.desk ∙ is
come_astray w (Some event) x y it st is = taken_astray event it.log it.faults x y it.number st it.takes is

pub turns_ordered : TurnsStayOrdered
turns_ordered result x y it st = come_ordered it.wants it.event (at_desk it.rested x.turning) y.turning it.comes (wait_ordered x it.wants it.clients it.awaiting it.rested it.awaits it.rests st)

pub turns_astray : TurnsStayAstray
turns_astray result x y it st is =
    come_astray it.wants it.event (at_desk it.rested x.turning) y.turning it.comes (wait_ordered x it.wants it.clients it.awaiting it.rested it.awaits it.rests st)
    (wait_astray x it.wants it.clients it.awaiting it.rested it.awaits it.rests is)
