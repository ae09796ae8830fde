-- From the end of a turn, over its wait, to where an event is handled that adds nothing to the log behind it.
use Rattle.std.proofs.Common.{refl, [], ◌∷◌, ◌++◌}
use Rattle.pp_comes_law.proofs.OriginBreaks.{broken_silently}
use Rattle.pp_comes_law.proofs.SilentOnes.{clients_silently, is_seated, reached_silently, stops_silently, ticks_silently}
use Rattle.pp_given_law.proofs.CountedBreaks.{as_broken}
use Rattle.pp_given_law.proofs.CountedOver.{as_accepted, as_reached, as_stopped}
use Rattle.pp_given_law.proofs.CountedTicks.{as_ticked}
use Rattle.pp_joints_law.proofs.Carries.{accepts_carry, breaks_carry, reaches_carry, stops_carry, ticks_carry}
use Rattle.pp_law.specs.Phases.{ending}
use Rattle.pp_law.specs.Turn.{rest_with}
use Rattle.pp_turn_law.proofs.HandledSo.{before, come_so, quiet_on, supplied_before}
use Rattle.pp_turn_law.specs.Awaited.{HasComeBehind, awaiting}
use Rattle.pp_turn_law.specs.Handled.{BrokenOnesAreHandled, ClientsAreHandled, ReachedOnesAreHandled, StopsAreHandled, TicksAreHandled}
use Rattle.pp_world.specs.declared.event.Event.TheVariants.{Accepted, Broken, Reached, Stop, Tick}
use Rattle.pp_world.specs.declared.happening.Happening.TheVariants.{Waits}

pub stops_handled : StopsAreHandled
stops_handled life budget log w x f all faults y s it handles =
    let come : HasComeBehind life budget log it.stands.number w Stop x f all faults s = come_so life budget log w Stop x f all faults y s it in
    let led = stops_silently (life.terms budget) (log ++ Waits w ∷ []) it.stands.number w (awaiting x f all faults) y (ending s) come.stands come.came handles it.bounded it.straight in
    quiet_on life budget log w Stop x f all faults y s it _ handles.1 led.0 led.1 refl
    (λ few. stops_carry (life.terms budget) (log ++ Waits w ∷ []) it.stands.number x.turning.shelf (awaiting x f all faults) y (rest_with w (ending s)) (before life budget log w Stop x f all faults y s it) handles few led.0)
    handles (as_stopped it.stands.number (awaiting x f all faults) y (rest_with w (ending s)) handles led.0 ((supplied_before life budget log w Stop x f all faults y s it).counted))

pub reached_handled : ReachedOnesAreHandled
reached_handled k life budget log w x f all faults y s it handles =
    let come : HasComeBehind life budget log it.stands.number w (Reached k) x f all faults s = come_so life budget log w (Reached k) x f all faults y s it in
    let led = reached_silently k (life.terms budget) (log ++ Waits w ∷ []) it.stands.number w (awaiting x f all faults) y (ending s) come.stands come.came handles it.bounded it.straight in
    quiet_on life budget log w (Reached k) x f all faults y s it _ handles.1 led.0 led.1 refl
    (λ few. reaches_carry (life.terms budget) (log ++ Waits w ∷ []) it.stands.number x.turning.shelf k (awaiting x f all faults) y (rest_with w (ending s)) (before life budget log w (Reached k) x f all faults y s it) handles few led.0)
    handles (as_reached k it.stands.number (awaiting x f all faults) y (rest_with w (ending s)) handles led.0 ((supplied_before life budget log w (Reached k) x f all faults y s it).counted))

pub clients_handled : ClientsAreHandled
clients_handled c life budget log w x f all faults y s it handles =
    let come : HasComeBehind life budget log it.stands.number w (Accepted c) x f all faults s = come_so life budget log w (Accepted c) x f all faults y s it in
    let led = clients_silently c (life.terms budget) (log ++ Waits w ∷ []) it.stands.number w (awaiting x f all faults) y (ending s) come.stands come.came handles it.bounded it.straight in
    quiet_on life budget log w (Accepted c) x f all faults y s it _ handles.1 led.0 led.1 refl
    (λ few. accepts_carry (life.terms budget) (log ++ Waits w ∷ []) it.stands.number x.turning.shelf c (awaiting x f all faults) y (rest_with w (ending s)) (before life budget log w (Accepted c) x f all faults y s it)
    (is_seated c (awaiting x f all faults) y handles it.straight) handles.1 few led.0)
    handles (as_accepted c it.stands.number (awaiting x f all faults) y (rest_with w (ending s)) handles led.0 ((supplied_before life budget log w (Accepted c) x f all faults y s it).counted))

pub ticks_handled : TicksAreHandled
ticks_handled seconds life budget log w x f all faults y s it handles noted =
    let come : HasComeBehind life budget log it.stands.number w (Tick seconds) x f all faults s = come_so life budget log w (Tick seconds) x f all faults y s it in
    let led = ticks_silently seconds (life.terms budget) (log ++ Waits w ∷ []) it.stands.number w (awaiting x f all faults) y (ending s) come.stands come.came handles it.bounded it.straight in
    quiet_on life budget log w (Tick seconds) x f all faults y s it _ handles.1 led.0 led.1 refl
    (λ few. ticks_carry (life.terms budget) (log ++ Waits w ∷ []) it.stands.number x.turning.shelf seconds (awaiting x f all faults) y (rest_with w (ending s)) (before life budget log w (Tick seconds) x f all faults y s it) handles few noted led.0)
    handles (as_ticked seconds it.stands.number (awaiting x f all faults) y (rest_with w (ending s)) (before life budget log w (Tick seconds) x f all faults y s it).stands handles led.0 ((supplied_before life budget log w (Tick seconds) x f all faults y s it).counted))

pub broken_handled : BrokenOnesAreHandled
broken_handled k life budget log w x f all faults y s it handles noted =
    let come : HasComeBehind life budget log it.stands.number w (Broken k) x f all faults s = come_so life budget log w (Broken k) x f all faults y s it in
    let led = broken_silently k (life.terms budget) (log ++ Waits w ∷ []) it.stands.number w (awaiting x f all faults) y (ending s) come.stands come.came handles it.bounded it.straight in
    quiet_on life budget log w (Broken k) x f all faults y s it _ handles.1 led.0 led.1 refl
    (λ few. breaks_carry (life.terms budget) (log ++ Waits w ∷ []) it.stands.number x.turning.shelf k (awaiting x f all faults) y (rest_with w (ending s)) (before life budget log w (Broken k) x f all faults y s it) handles few noted led.0)
    handles (as_broken k it.stands.number (awaiting x f all faults) y (rest_with w (ending s)) (before life budget log w (Broken k) x f all faults y s it).stands handles led.0 ((supplied_before life budget log w (Broken k) x f all faults y s it).counted))
