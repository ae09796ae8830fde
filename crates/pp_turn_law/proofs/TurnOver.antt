-- From one wait to the next: all of a turn, wherever its wait was.
use Rattle.std.proofs.Common.{List, Option, Some, [], ap, append_assoc, false, inl, inr, length, refl, subst, sym, ℕ, ◌++◌, ◌+◌, ◌<◌, ◌∙◌, ◌∷◌, ◌≡◌, ◌≤◌}
use Rattle.pp_conf.specs.Conf.{Settings}
use Rattle.pp_desk.specs.declared.desk.Desk.{Desk}
use Rattle.pp_events_law.specs.Losses.{at_disk}
use Rattle.pp_events_law.specs.Stands.{come}
use Rattle.pp_grown_law.specs.Grown.{HasNothingToKeep}
use Rattle.pp_grown_law.specs.Numbered.{AreNumbered}
use Rattle.pp_law.specs.Phases.{ending}
use Rattle.pp_law.specs.State.{State}
use Rattle.pp_obeys.proofs.Frames.{Frame}
use Rattle.pp_obeys.proofs.StaysTurns.{ending-frame}
use Rattle.pp_obeys.specs.Obeys.{Life, Obeys}
use Rattle.pp_proxy.specs.Awaiting.{ComesTo, HasCome, Standing, TurnsOn, turn_behind}
use Rattle.pp_proxy.specs.Handling.{Handles}
use Rattle.pp_proxy.specs.Moving.{Turning, at_desk}
use Rattle.pp_proxy.specs.Turns.{turn_by}
use Rattle.pp_proxy.specs.declared.proxy.Turn.TheVariants.{Went}
use Rattle.pp_target.specs.Name.{name_of}
use Rattle.pp_waits_law.specs.Asleep.{WereRead}
use Rattle.pp_waits_law.specs.Waits.{OriginsAreApart}
use Rattle.pp_world.specs.Log.{Log}
use Rattle.pp_world.specs.Wire.{event_happening}
use Rattle.pp_world.specs.declared.event.Event.{Event}
use Rattle.pp_world.specs.declared.event.Event.TheVariants.{Accepted, Broken, Reached, Readable, Stop, Tick, Writable}
use Rattle.pp_world.specs.declared.event.Wants.{Wants}
use Rattle.pp_world.specs.declared.happening.Happening.TheVariants.{Noted, Unread, Waits}
use Rattle.pp_world.specs.declared.note.Remark.TheVariants.{Gone}
use Rattle.pp_turn_law.proofs.AwakeOn.{still_read}
use Rattle.pp_turn_law.proofs.BesideOn.{buffer_there, data_there}
use Rattle.pp_turn_law.proofs.DeskLeft.{StaysSo, events_left}
use Rattle.pp_turn_law.proofs.Grown.{are_numbered, served_leave}
use Rattle.pp_turn_law.proofs.Kept.{go_to_decide, nothing_left}
use Rattle.pp_turn_law.proofs.LostSo.{lost_go_to_decide, lost_leave}
use Rattle.pp_turn_law.proofs.NextWait.{apart_then}
use Rattle.pp_turn_law.proofs.Order.{settled}
use Rattle.pp_turn_law.proofs.Serves.{deciding_serve, serving_there}
use Rattle.pp_turn_law.proofs.SizesOn.{turns_size}
use Rattle.pp_turn_law.proofs.TurnHalf.{HasTurned, StandsOver, stands_over, turned, turns_taken}
use Rattle.pp_turn_law.proofs.TurnLogs.{LoggedBehind, set_behind, turn_logs}
use Rattle.pp_turn_law.proofs.WaitsAgain.{turns_note, waits_again}
use Rattle.pp_turn_law.proofs.WaysOut.{turns_come}
use Rattle.pp_turn_law.specs.Awaited.{awaiting}
use Rattle.pp_turn_law.specs.Called.{IsLostOn}
use Rattle.pp_turn_law.specs.Going.{GoesOnTo, IsTaken, StandsOn, TurnsGoOn}
use Rattle.pp_turn_law.specs.Handled.{IsHandledOn}
use Rattle.pp_turn_law.specs.Kept.{HasGoneToDecide, LeavesAndKeeps}
use Rattle.pp_turn_law.specs.Served.{HasServedOn, ServesOn, StandsToServe, most_happenings}
use Rattle.pp_turn_law.specs.Straight.{IsStraight}
use Rattle.pp_turn_law.specs.Supplied.{StandsServing}
use Rattle.pp_turn_law.specs.Waited.{StandsAtWait}
use Rattle.pp_turn_law.specs.Whole.{DecidesNext}

-- from where its event was taken, over memory and the disk, to where decisions come next; and nothing is left to be kept
record NowDecides (life : Life) (budget : ℕ) (log : Log) (w : Wants) (event : Event) (h k : Turning) : Type 0 where
  next : DecidesNext life budget log w event h k
  nothing : HasNothingToKeep k.moving.desk.state k.shelf

module _ (life : Life) (budget : ℕ) (log after : Log) (w : Wants) (event : Event) (h k : Turning) (keeps : LeavesAndKeeps h k) (told : k.log ≡ Some after) (few : k.faults ≤ budget + life.base) (straight : k.moving.desk.state.is_astray ≡ false) where
  handled_decides : IsHandledOn life budget log w event h → NowDecides life budget log w event h k
  handled_decides on = record {
    next = record { added = on.added; then = on.then; gone = go_to_decide life budget (log ++ (Waits w ∷ event_happening event ∷ on.added)) after on.number h k on.then on.stands keeps told few };
    nothing = nothing_left life budget (log ++ (Waits w ∷ event_happening event ∷ on.added)) after on.number h k on.then on.stands keeps told few straight;
  }

  lost_decides : (id : ℕ) → event ≡ Writable id → IsLostOn life budget log w id h → NowDecides life budget log w event h k
  lost_decides id is lost = subst (λ (e : Event). NowDecides life budget log w e h k) (sym is) (record {
    next = record { added = Unread (name_of lost.key) ∷ Noted (Gone lost.key) ∷ []; then = at_disk lost.then; gone = lost_go_to_decide life budget log after w id h k lost keeps told few };
    nothing = lost_leave life budget log after w id h k lost keeps told few straight;
  })

taken_decides : (life : Life) (budget : ℕ) (log after : Log) (w : Wants) (event : Event) (h k : Turning) → LeavesAndKeeps h k → k.log ≡ Some after → k.faults ≤ budget + life.base → k.moving.desk.state.is_astray ≡ false → IsTaken life budget log w event h → NowDecides life budget log w event h k
taken_decides life budget log after w Stop h k keeps told few straight on = handled_decides life budget log after w Stop h k keeps told few straight on
taken_decides life budget log after w (Tick seconds) h k keeps told few straight on = handled_decides life budget log after w (Tick seconds) h k keeps told few straight on
taken_decides life budget log after w (Accepted c) h k keeps told few straight on = handled_decides life budget log after w (Accepted c) h k keeps told few straight on
taken_decides life budget log after w (Readable id) h k keeps told few straight on = handled_decides life budget log after w (Readable id) h k keeps told few straight on
taken_decides life budget log after w (Writable id) h k keeps told few straight (inl on) = handled_decides life budget log after w (Writable id) h k keeps told few straight on
taken_decides life budget log after w (Writable id) h k keeps told few straight (inr lost) = lost_decides life budget log after w (Writable id) h k keeps told few straight id refl lost
taken_decides life budget log after w (Reached n) h k keeps told few straight on = handled_decides life budget log after w (Reached n) h k keeps told few straight on
taken_decides life budget log after w (Broken n) h k keeps told few straight on = handled_decides life budget log after w (Broken n) h k keeps told few straight on

-- where it is handled it is taken
pub handled_taken : (life : Life) (budget : ℕ) (log : Log) (w : Wants) (event : Event) (h : Turning) → IsHandledOn life budget log w event h → IsTaken life budget log w event h
handled_taken life budget log w Stop h on = on
handled_taken life budget log w (Tick seconds) h on = on
handled_taken life budget log w (Accepted c) h on = on
handled_taken life budget log w (Readable id) h on = on
handled_taken life budget log w (Writable id) h on = inl on
handled_taken life budget log w (Reached n) h on = on
handled_taken life budget log w (Broken n) h on = on

-- a turn that goes on has none that says Stop
not_stop : (event : Event) → Went ≡ turn_by event → event ≡ Stop → ⊥
not_stop event is same = let both : Went ≡ turn_by Stop = is ∙ ap turn_by same in absurd (cc both)

module _ (life : Life) (budget : ℕ) (log after : Log) (x y : Standing) (s : State) (number : ℕ → ℕ) (turns : TurnsOn Went x y) (st : StandsOver life budget log x s number turns.wants turns.clients turns.rested turns.event) (well : IsStraight y.turning) (told : y.turning.log ≡ Some after)
    (few : y.turning.faults ≤ budget + life.base) (brief : length after < most_happenings) (numbered : AreNumbered x.turning.moving.desk.state.flow) (size : x.turning.moving.desk.state.cache.size ≡ s.settings.critical) (event : Event) (is : turns.event ≡ Some event) where
  abbrev w : Wants
  w = turns.wants

  abbrev f : Desk
  f = turns.rested

  half : HasTurned life budget log w event x f y.turning
  half = turned life budget log after Went x y s number turns st well told few brief event is

  abbrev h : Turning
  h = half.handled

  abbrev k : Turning
  k = half.kept

  handles_there : Handles event (come event (awaiting x f half.all half.faults)) h
  handles_there = half.taken.handles

  keeps : LeavesAndKeeps h k
  keeps = half.keeps

  serves : ServesOn k y.turning
  serves = half.serves

  -- that is no Stop
  leaves_desk : StaysSo f h.moving.desk
  leaves_desk = events_left event (come event (awaiting x f half.all half.faults)) h (not_stop event (turns.result_is ∙ ap turn_behind is)) half.room handles_there

  decides : NowDecides life budget log w event h k
  decides = taken_decides life budget log half.kept_log.0 w event h k keeps half.kept_log.1 half.few half.straight half.on

  abbrev added : Log
  added = decides.next.added

  abbrev there : Log
  there = log ++ (Waits w ∷ event_happening event ∷ added)

  gone : HasGoneToDecide life budget there h k decides.next.then
  gone = decides.next.gone

  -- ---- decisions, and rounds

  going : h.moving.desk.state.is_stopped ≡ false
  going =
      leaves_desk.stopped ∙ ap (λ (d : Desk). d.state.is_stopped) turns.rests.rest ∙ ap (λ (d : Desk). d.state.is_stopped) turns.awaits.rest ∙ st.going

  to_serve : StandsToServe life budget (there ++ gone.goes.added) gone.number k gone.then
  to_serve = record { obeys = gone.goes.comes.obeys; allows = gone.goes.allows; told = gone.goes.told; kept = gone.kept; going = sym gone.kept.turn.stopped ∙ gone.stopped ∙ going }

  serving : StandsServing k.shelf k.moving.desk.state gone.then
  serving = serving_there (life.terms budget) (there ++ gone.goes.added) gone.number keeps.left k gone.then gone.goes.comes.obeys gone.kept to_serve.going keeps.keeps half.straight gone.supplied

  served : HasServedOn life budget (there ++ gone.goes.added) y.turning gone.then
  served = deciding_serve life budget (there ++ gone.goes.added) after gone.number k y.turning gone.then to_serve serving serves told few brief

  -- ---- at the next wait

  going_then : served.served.then.is_stopped ≡ false
  going_then = sym (ap (λ (g : Frame). g.is_stopped) (ending-frame false served.served.then)) ∙ served.served.set.going

  whole : there ++ gone.goes.added ≡ (log ++ Waits w ∷ []) ++ (event_happening event ∷ (added ++ gone.goes.added))
  whole = append_assoc log (Waits w ∷ event_happening event ∷ added) gone.goes.added ∙ sym (append_assoc log (Waits w ∷ []) (event_happening event ∷ (added ++ gone.goes.added)))

  next : StandsAtWait life budget ((there ++ gone.goes.added) ++ served.added) y served.served.then
  next = waits_again life budget (there ++ gone.goes.added) y gone.then served going_then (record {
    read = subst (λ (ns : List ℕ). WereRead ns y.turning.moving.desk.state) (sym turns.read)
        (still_read life budget log w event x f half.all half.faults h k y.turning s number turns.clients st.waited half.taken.beside handles_there keeps decides.next.added decides.next.then gone serves);
    apart = subst (λ (ns : List ℕ). OriginsAreApart ns y.turning.moving.desk) (sym turns.read)
        (apart_then life budget log (there ++ gone.goes.added) (event_happening event ∷ (added ++ gone.goes.added)) x w turns.clients f y.turning s gone.then number st.waited st.read whole served);
    noted = turns_note h k y.turning keeps serves;
  })

  -- ---- the cache may have as many chunks, and the settings stay

  came : HasCome w event (at_desk f x.turning) y.turning
  came = subst (λ (o : Option Event). ComesTo w o (at_desk f x.turning) y.turning) is turns.comes

  behind_wait : LoggedBehind log w after
  behind_wait = turn_logs w event (at_desk f x.turning) y.turning log after st.log_is came told

  all_is : (there ++ gone.goes.added) ++ served.added ≡ after
  all_is = let both : Some ((there ++ gone.goes.added) ++ served.added) ≡ Some after = sym served.told ∙ told in cc both

  same_settings : served.served.then.settings ≡ s.settings
  same_settings =
      set_behind (life.terms budget) log behind_wait.added after w s served.served.then st.waited.comes.obeys (subst (λ (l : Log). Obeys (life.terms budget) served.served.then l) all_is served.served.comes.obeys) behind_wait.is behind_wait.turns

  size_next : y.turning.moving.desk.state.cache.size ≡ served.served.then.settings.critical
  size_next = (turns_size Went x y turns st.ordered numbered).size ∙ size ∙ ap (λ (c : Settings). c.critical) (sym same_settings)

  stands_next : StandsOn life budget ((there ++ gone.goes.added) ++ served.added) y served.served.then
  stands_next = record {
    wait = next;
    buffer = buffer_there event x f half.all half.faults h k y.turning half.taken.beside handles_there keeps serves;
    holds = data_there event x f half.all half.faults h k y.turning half.taken.beside handles_there keeps serves;
    ordered = settled k.shelf k.moving y.turning.moving serves.settles.added serves.settles.is half.ordered;
    size = size_next;
    bounded = serves.bounded;
    nothing = served_leave gone.number k y.turning gone.then gone.kept serves decides.nothing;
    few = served.few;
  }

  pub goes_on_to : GoesOnTo life budget log y
  goes_on_to = record {
    added = ((Waits w ∷ event_happening event ∷ added) ++ gone.goes.added) ++ served.added;
    then = served.served.then;
    stands = subst (λ (l : Log). StandsOn life budget l y served.served.then)
        (ap (λ (l : Log). l ++ served.added) (append_assoc log (Waits w ∷ event_happening event ∷ added) gone.goes.added) ∙ append_assoc log ((Waits w ∷ event_happening event ∷ added) ++ gone.goes.added) served.added) stands_next;
  }

-- ---- from one wait to the next

pub turns_over : (life : Life) (budget : ℕ) (log after : Log) (x y : Standing) (s : State) (number : ℕ → ℕ) (turns : TurnsOn Went x y) → StandsOver life budget log x s number turns.wants turns.clients turns.rested turns.event → IsStraight y.turning → y.turning.log ≡ Some after
    → y.turning.faults ≤ budget + life.base → length after < most_happenings → AreNumbered x.turning.moving.desk.state.flow → x.turning.moving.desk.state.cache.size ≡ s.settings.critical → GoesOnTo life budget log y
turns_over life budget log after x y s number turns st well told few brief numbered size =
    let comes : (event : Event) × (turns.event ≡ Some event) = turns_come life budget log Went x y number s turns st.waited in
    goes_on_to life budget log after x y s number turns st well told few brief numbered size comes.0 comes.1

pub turns_go : TurnsGoOn
turns_go life budget log after x y s st turns taken_so well told few brief =
    turns_over life budget log after x y s st.wait.number turns (stands_over life budget log Went x y s st turns (λ event is all faults h it short less. taken_so event is all faults h (record {
      turns = turns_taken life budget log Went x y s st turns event all faults h it;
      handles = it.handles;
      told = it.told;
      linked = it.linked;
    }) short less)) well told few brief (are_numbered st.wait.number x.turning.moving.desk (ending s) st.wait.ended.turn) st.size
