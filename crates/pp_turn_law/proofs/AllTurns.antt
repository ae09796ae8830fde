-- All turns of a life, one behind the other: each goes on from where the one before it led, and behind the last the log may end.
use Rattle.std.proofs.Common.{◌≡◌, ◌≤◌, ◌<◌, refl, sym, subst, ap, ◌∙◌, inl, inr, ◌⊎◌, ℕ, zero, suc, ◌+◌, true, length, [], ◌∷◌, ◌++◌, append_assoc, Option, Some, None, le_trans, arith}
use Rattle.std.proofs.lemmas.List.{append-nil, length-append}
use Rattle.pp_conf.specs.declared.conf.Conf.{Conf}
use Rattle.pp_joints_law.specs.Opened.{BeginsWith}
use Rattle.pp_law.specs.Permits.{is_over as may_be_over}
use Rattle.pp_law.specs.State.{State}
use Rattle.pp_obeys.specs.Obeys.{Allows, Life, Obeys}
use Rattle.pp_proxy.specs.Awaiting.{ComesTo, Standing, TurnsOn}
use Rattle.pp_proxy.specs.Moving.{Turning, at_desk}
use Rattle.pp_proxy.specs.declared.proxy.Proxy.{Proxy}
use Rattle.pp_proxy.specs.declared.proxy.Turn.{Turn as Result}
use Rattle.pp_proxy.specs.declared.proxy.Turn.TheVariants.{Stopped, Went}
use Rattle.pp_rounds_law.proofs.Astray.{well_before}
use Rattle.pp_rounds_law.specs.Astray.{IsAstray}
use Rattle.pp_run.specs.Serving.{TurnsUpTo}
use Rattle.pp_store.specs.Kept.{KeptMap}
use Rattle.pp_world.specs.Log.{Log}
use Rattle.pp_world.specs.Wire.{wait_happenings}
use Rattle.pp_world.specs.declared.event.Event.{Event}
use Rattle.pp_world.specs.declared.event.Event.TheVariants.{Accepted}
use Rattle.pp_world.specs.declared.event.Wants.{Wants}
use Rattle.pp_world.specs.declared.happening.Happening.TheVariants.{Shut}
use Rattle.pp_turn_law.proofs.FirstOver.{first_stop, first_turns, ordered as ordered_at_first}
use Rattle.pp_turn_law.proofs.OrderTurns.{turns_astray, turns_ordered}
use Rattle.pp_turn_law.proofs.TurnLogs.{front_shorter}
use Rattle.pp_turn_law.proofs.TurnOver.{turns_go}
use Rattle.pp_turn_law.proofs.TurnStops.{turns_end}
use Rattle.pp_turn_law.proofs.WaysOut.{none_made, turns_last}
use Rattle.pp_turn_law.specs.Going.{GoesOnTo, StandsOn}
use Rattle.pp_turn_law.specs.Opening.{opened_at}
use Rattle.pp_turn_law.specs.Ordered.{StandsOrdered}
use Rattle.pp_turn_law.specs.Served.{most_happenings}
use Rattle.pp_turn_law.specs.Stopping.{HasStoppedAt}
use Rattle.pp_turn_law.specs.Straight.{IsStraight}
use Rattle.pp_turn_law.specs.Turned.{EventsAreTaken, HasGoneOn, LivesGoOn, TakesAll, TurnsGoOnUpTo}

-- ---- what turns lead to

-- a log that is told behind them was told before them, and goes on from there; and the outside fails no less often
pub record LedTo (x y : Turning) : Type 0 where
  pub told : (after : Log) → y.log ≡ Some after → (before : Log) × (x.log ≡ Some before) × ((added : Log) × (after ≡ before ++ added))
  pub count : x.faults ≤ y.faults

led_none : (x : Turning) → LedTo x x
led_none x = record { told = λ after is. (after, is, ([], sym (append-nil after))); count = omega arith }

led_then : (x y z : Turning) → LedTo x y → LedTo y z → LedTo x z
led_then x y z one two = record {
  told = λ after is.
      let late = two.told after is in
      let early = one.told late.0 late.1 in
      (early.0, early.1, (early.2.0 ++ late.2.0, late.2.1 ∙ ap (λ (l : Log). l ++ late.2.0) early.2.1 ∙ append_assoc early.0 early.2.0 late.2.0));
  count = le_trans one.count two.count;
}

come_told : (w : Wants) (o : Option Event) (x y : Turning) → ComesTo w o x y → (after : Log) → y.log ≡ Some after → (before : Log) × (x.log ≡ Some before) × ((added : Log) × (after ≡ before ++ added))
come_told w None x y it after is = let was = it.away.told.was after is in (was.0, was.1, (wait_happenings w (Accepted it.away.client) ++ Shut it.away.client ∷ [], was.2))
come_told w (Some event) x y it after is =
    let late = it.takes.steady.was after is in
    let early = it.told.was late.0 late.1 in
    (early.0, early.1, (wait_happenings w event ++ late.2.0, late.2.1 ∙ ap (λ (l : Log). l ++ late.2.0) early.2 ∙ append_assoc early.0 (wait_happenings w event) late.2.0))

come_counted : (w : Wants) (o : Option Event) (x y : Turning) → ComesTo w o x y → x.faults ≤ y.faults
come_counted w None x y it = it.count
come_counted w (Some event) x y it = le_trans it.count it.takes.count

turn_led : (result : Result) (x y : Standing) → TurnsOn result x y → LedTo x.turning y.turning
turn_led result x y it = record {
  told = come_told it.wants it.event (at_desk it.rested x.turning) y.turning it.comes;
  count = come_counted it.wants it.event (at_desk it.rested x.turning) y.turning it.comes;
}

-- ---- one, and others behind it

none_is : (x y : Standing) → TurnsUpTo zero x y → y ≡ x
unfolding TurnsUpTo
none_is x y all = all

first_of : (more : ℕ) (x y : Standing) → TurnsUpTo (suc more) x y → ((next : Standing) × TurnsOn Went x next × TurnsUpTo more next y) ⊎ TurnsOn Stopped x y
unfolding TurnsUpTo
first_of more x y all = all

pub all_led : (most : ℕ) (x y : Standing) → TurnsUpTo most x y → LedTo x.turning y.turning
all_led zero x y all = subst (λ (z : Standing). LedTo x.turning z.turning) (sym (none_is x y all)) (led_none x.turning)
all_led (suc more) x y all = by (first_of more x y all) (λ next others. all_led more next y others)
  where
    by : ((next : Standing) × TurnsOn Went x next × TurnsUpTo more next y) ⊎ TurnsOn Stopped x y → ((next : Standing) → TurnsUpTo more next y → LedTo next.turning y.turning) → LedTo x.turning y.turning
    by (inl (next, turn, others)) later = led_then x.turning next.turning y.turning (turn_led Went x next turn) (later next others)
    by (inr last) later = turn_led Stopped x y last

-- a life that went astray stays so
all_astray : (most : ℕ) (x y : Standing) → TurnsUpTo most x y → StandsOrdered x.turning.moving → IsAstray x.turning.moving → IsAstray y.turning.moving
all_astray zero x y all st is = subst (λ (z : Standing). IsAstray z.turning.moving) (sym (none_is x y all)) is
all_astray (suc more) x y all st is = by (first_of more x y all) (λ next others ordered astray. all_astray more next y others ordered astray)
  where
    by : ((next : Standing) × TurnsOn Went x next × TurnsUpTo more next y) ⊎ TurnsOn Stopped x y → ((next : Standing) → TurnsUpTo more next y → StandsOrdered next.turning.moving → IsAstray next.turning.moving → IsAstray y.turning.moving) → IsAstray y.turning.moving
    by (inl (next, turn, others)) later = later next others (turns_ordered Went x next turn st) (turns_astray Went x next turn st is)
    by (inr last) later = turns_astray Stopped x y last st is

-- ---- where the log may end

module _ (life : Life) (budget : ℕ) (log : Log) (y : Standing) where
  over_at : (s : State) → Obeys (life.terms budget) s log → Allows life budget y.turning.faults s → y.turning.log ≡ Some log → may_be_over s ≡ true → HasGoneOn life budget log y
  over_at s obeys allows told over = record {
    added = [];
    then = s;
    obeys = subst (λ (l : Log). Obeys (life.terms budget) s l) (sym (append-nil log)) obeys;
    allows = allows;
    told = told ∙ ap (λ (l : Log). Some l) (sym (append-nil log));
    over = over;
  }

  stopped_over : HasStoppedAt life budget log y → HasGoneOn life budget log y
  stopped_over it = record { added = it.added; then = it.then; obeys = it.obeys; allows = it.allows; told = it.told; over = it.over }

  on_then : (one : Log) → HasGoneOn life budget (log ++ one) y → HasGoneOn life budget log y
  on_then one it = record {
    added = one ++ it.added;
    then = it.then;
    obeys = subst (λ (l : Log). Obeys (life.terms budget) it.then l) (append_assoc log one it.added) it.obeys;
    allows = it.allows;
    told = it.told ∙ ap (λ (l : Log). Some l) (append_assoc log one it.added);
    over = it.over;
  }

-- ---- all of them

-- at a wait between two of them
record IsBetween (life : Life) (budget : ℕ) (next : Standing) : Type 0 where
  log : Log
  told : next.turning.log ≡ Some log
  straight : IsStraight next.turning
  few : next.turning.faults ≤ budget + life.base
  brief : length log < most_happenings

module _ (life : Life) (budget : ℕ) (after : Log) (y : Standing) (takes : TakesAll life budget) (well : IsStraight y.turning) (told : y.turning.log ≡ Some after) (few : y.turning.faults ≤ budget + life.base) (brief : length after < most_happenings) where
  between : (more : ℕ) (next : Standing) → TurnsUpTo more next y → StandsOrdered next.turning.moving → IsBetween life budget next
  between more next others ordered =
      let led : LedTo next.turning y.turning = all_led more next y others in
      let was = led.told after told in
      record {
        log = was.0;
        told = was.1;
        straight = well_before next.turning.moving.desk.state.is_astray y.turning.moving.desk.state.is_astray (all_astray more next y others ordered) well;
        few = le_trans led.count few;
        brief = front_shorter (length was.0) (length was.2.0) (length after) most_happenings (ap (λ (l : Log). length l) was.2.1 ∙ length-append was.0 was.2.0) brief;
      }

  up_to : (most : ℕ) (log : Log) (x : Standing) (s : State) → StandsOn life budget log x s → TurnsUpTo most x y → HasGoneOn life budget log y
  up_to zero log x s st all =
      subst (λ (z : Standing). HasGoneOn life budget log z) (sym (none_is x y all)) (over_at life budget log x s st.wait.obeys st.wait.allows st.wait.told (turns_last life budget log x s st.wait))
  up_to (suc more) log x s st all = by (first_of more x y all) (λ l z t stands others. up_to more l z t stands others)
    where
      by : ((next : Standing) × TurnsOn Went x next × TurnsUpTo more next y) ⊎ TurnsOn Stopped x y → ((l : Log) (z : Standing) (t : State) → StandsOn life budget l z t → TurnsUpTo more z y → HasGoneOn life budget l y) → HasGoneOn life budget log y
      by (inl (next, turn, others)) later =
          let at : IsBetween life budget next = between more next others (turns_ordered Went x next turn st.ordered) in
          let goes : GoesOnTo life budget log next = turns_go life budget log at.log x next s st turn (takes log at.log x next s st turn at.straight at.told at.few at.brief) at.straight at.told at.few at.brief in
          on_then life budget log y goes.added (later (log ++ goes.added) next goes.then goes.stands others)
      by (inr last) later = stopped_over life budget log y (turns_end life budget log after x y s st last well told few brief)

  -- from where a life listens
  module _ (log : Log) (conf : Conf) (p : Proxy) (shelf : KeptMap) (top faults : ℕ) (s : State) (it : BeginsWith (life.terms budget) log conf p shelf top s) (name : length p.desk.state.name.items ≤ 64) (size : p.desk.state.cache.size ≡ s.settings.critical) (allows : Allows life budget faults s) where
    abbrev first : Standing
    first = opened_at p shelf top log faults

    from_first : (most : ℕ) → TurnsUpTo most first y → HasGoneOn life budget log y
    from_first zero all =
        subst (λ (z : Standing). HasGoneOn life budget log z) (sym (none_is first y all)) (over_at life budget log first s it.obeys allows refl (none_made (life.terms budget) log conf p shelf top s it))
    from_first (suc more) all = by (first_of more first y all)
      where
        by : ((next : Standing) × TurnsOn Went first next × TurnsUpTo more next y) ⊎ TurnsOn Stopped first y → HasGoneOn life budget log y
        by (inl (next, turn, others)) =
            let at : IsBetween life budget next = between more next others (turns_ordered Went first next turn (ordered_at_first life budget log conf p shelf top faults next s it name allows Went turn)) in
            let goes : GoesOnTo life budget log next = first_turns life budget log at.log conf p shelf top faults next s it name size allows turn at.straight at.told at.few at.brief in
            on_then life budget log y goes.added (up_to more (log ++ goes.added) next goes.then goes.stands others)
        by (inr last) = stopped_over life budget log y (first_stop life budget log after conf p shelf top faults y s it name allows last well told few brief)

pub all_turns : TurnsGoOnUpTo
all_turns life budget most log after x y s takes st all well told few brief = up_to life budget after y takes well told few brief most log x s st all

pub all_lives : EventsAreTaken → LivesGoOn
all_lives taken life budget most log after conf p shelf top faults y s it name size allows all well told few brief =
    from_first life budget after y (taken life budget) well told few brief log conf p shelf top faults s it name size allows most all
