-- Where a life listens whatever event comes first is handled.
use Rattle.std.proofs.Common.{◌≡◌, refl, sym, subst, ap₂, ◌∙◌, ℕ, true, false, [], ◌∷◌, ◌++◌, List}
use Rattle.std.specs.List.{list_all}
use Rattle.std.specs.Prelude.{IsTrue, count_by}
use Rattle.pp_comes_law.proofs.OriginBreaks.{broken_silently}
use Rattle.pp_comes_law.proofs.SilentOnes.{clients_silently, is_seated, reached_silently, stops_silently, ticks_silently}
use Rattle.pp_comes_law.proofs.Wanted.{all_of}
use Rattle.pp_conf.specs.declared.conf.Conf.{Conf}
use Rattle.pp_desk.specs.declared.desk.Desk.{Desk}
use Rattle.pp_events_law.specs.Silent.{IsSilentlyHandled}
use Rattle.pp_events_law.specs.Stands.{AreReadyAt, come}
use Rattle.pp_given_law.proofs.CountedBreaks.{as_broken}
use Rattle.pp_given_law.proofs.CountedOver.{as_accepted, as_reached, as_stopped}
use Rattle.pp_given_law.proofs.CountedTicks.{as_ticked}
use Rattle.pp_joints_law.proofs.Carries.{accepts_carry, breaks_carry, reaches_carry, stops_carry, ticks_carry}
use Rattle.pp_joints_law.specs.Behind.{CarriesOn, HasFew, MayNote, StandsBefore}
use Rattle.pp_joints_law.specs.Unnoted.{KnowsAlike}
use Rattle.pp_law.specs.Phases.{ending}
use Rattle.pp_law.specs.Served.{may_read, may_write}
use Rattle.pp_law.specs.State.{State, Client, Conn, Term}
use Rattle.pp_law.specs.Turn.{rest_with}
use Rattle.pp_laws.proofs.Tests.{first_holds, second_holds}
use Rattle.pp_obeys.specs.Failures.{fails}
use Rattle.pp_obeys.specs.Obeys.{Life}
use Rattle.pp_opening_law.specs.Openings.{IsUnused}
use Rattle.pp_proxy.specs.Awaiting.{Awaits, Standing}
use Rattle.pp_proxy.specs.Handling.{Handles, IsSilent}
use Rattle.pp_proxy.specs.Moving.{Turning}
use Rattle.pp_proxy.specs.declared.proxy.Proxy.{Proxy}
use Rattle.pp_stays_law.specs.Turns.{AreCounted}
use Rattle.pp_store.specs.Kept.{KeptMap}
use Rattle.pp_world.specs.Log.{Log}
use Rattle.pp_world.specs.Wire.{event_happening, has_number}
use Rattle.pp_world.specs.declared.event.Event.{Event}
use Rattle.pp_world.specs.declared.event.Event.TheVariants.{Accepted, Broken, Reached, Readable, Stop, Tick, Writable}
use Rattle.pp_world.specs.declared.event.Wants.{Wants}
use Rattle.pp_world.specs.declared.happening.Happening.TheVariants.{Waits}
use Rattle.pp_turn_law.proofs.FirstWait.{alike, beside, from_none, nobody_lawful, notes, same_state, waited}
use Rattle.pp_turn_law.proofs.HandledFrom.{before_from, come_from, quiet_from}
use Rattle.pp_turn_law.specs.Awaited.{HasComeBehind, StandsBeside, awaiting}
use Rattle.pp_turn_law.specs.Handled.{IsHandledOn}
use Rattle.pp_turn_law.specs.Opening.{BeginsTurns, FirstEventsAreAwaited, FirstEventsAreHandled, opened_at}
use Rattle.pp_turn_law.specs.Waited.{HasWaitedOn}

-- nobody may be read, and nobody written to
none_reads : (s : State) (n : ℕ) → IsUnused s → may_read s n ≡ false
none_reads s n unused = ap₂ (λ (cs : List Client) (ks : List Conn). may_read (record s { clients = cs; conns = ks }) n) unused.clients unused.conns

none_writes : (s : State) (n : ℕ) → IsUnused s → may_write s n ≡ false
none_writes s n unused = ap₂ (λ (cs : List Client) (ks : List Conn). may_write (record s { clients = cs; conns = ks }) n) unused.clients unused.conns

module _ (life : Life) (budget : ℕ) (log : Log) (conf : Conf) (p : Proxy) (shelf : KeptMap) (top faults : ℕ) (w : Wants) (event : Event) (f : Desk) (all : Log) (now : ℕ) (y : Turning) (s : State) (number : ℕ → ℕ) (it : BeginsTurns life budget log conf p shelf top faults w event f all now y s) where
  abbrev x : Standing
  x = opened_at p shelf top log faults

  abbrev terms : List Term
  terms = life.terms budget

  abbrev waiting : Log
  waiting = log ++ Waits w ∷ []

  none : Awaits [] w it.clients p.desk it.awaiting
  none = from_none life budget log conf p shelf top s it.begins w it.clients it.awaiting it.awaits

  waits : HasWaitedOn life budget log x w it.clients f number s
  waits = waited life budget log conf p shelf top s it.begins faults number w it.clients it.awaiting f none it.rests it.name

  next_to : StandsBeside x f
  next_to = beside life budget log conf p shelf top s it.begins faults number w it.clients it.awaiting f none it.rests

  knows : KnowsAlike f (rest_with w (ending s))
  knows = alike life budget log conf p shelf top s it.begins faults number w it.clients it.awaiting f none it.rests

  pub come_first : HasComeBehind life budget log number w event x f all now s
  come_first = come_from life budget log w event x f all now s number it.clients refl waits next_to it.comes

  first_before : Handles event (come event (awaiting x f all now)) y → StandsBefore terms waiting number shelf (awaiting x f all now).moving (rest_with w (ending s))
  first_before handles = before_from life budget log w event x f all now s number it.clients refl waits next_to it.comes y knows it.allows it.counted it.straight handles

  quiet_first : (t : State) → IsSilent (come event (awaiting x f all now)) y → (led : IsSilentlyHandled number (event_happening event) y (rest_with w (ending s)) t) → AreReadyAt number y.moving t → count_by fails (event_happening event ∷ []) ≡ 0 → (HasFew y.moving → CarriesOn shelf y.moving led.handled.handled)
      → Handles event (come event (awaiting x f all now)) y → AreCounted y.moving.desk.state led.handled.handled → IsHandledOn life budget log w event y
  quiet_first t quiet led ready calm carries handles counts = quiet_from life budget log w event x f all now s number it.clients refl waits next_to it.comes y knows it.allows it.counted it.straight handles t quiet led ready calm carries counts

  counted_before : AreCounted f.state (rest_with w (ending s))
  counted_before = waits.supplied.counted

  may_note : MayNote (awaiting x f all now).moving
  may_note = notes life budget log conf p shelf top s it.begins faults number w it.clients it.awaiting f none it.rests

  unused : IsUnused (ending s)
  unused = subst (λ (t : State). IsUnused t) (sym (same_state life budget log conf p shelf top s it.begins)) (nobody_lawful life budget log conf p shelf top s it.begins)

  never_read : (n : ℕ) → IsTrue (has_number n w.read.items) → ⊥
  never_read n has = let no : false ≡ true = sym (none_reads (ending s) n unused) ∙ all_of (may_read (ending s)) w.read.items n (first_holds (list_all (may_read (ending s)) w.read.items) _ waits.good.no_more) has in cc no

  never_written : (n : ℕ) → IsTrue (has_number n w.write.items) → ⊥
  never_written n has = let no : false ≡ true = sym (none_writes (ending s) n unused) ∙ all_of (may_write (ending s)) w.write.items n (second_holds (list_all (may_read (ending s)) w.read.items) _ waits.good.no_more) has in cc no

pub first_awaited : FirstEventsAreAwaited
first_awaited life budget log conf p shelf top faults w event f all now y s number it = come_first life budget log conf p shelf top faults w event f all now y s number it

pub first_handled : FirstEventsAreHandled
first_handled Stop life budget log conf p shelf top faults w f all now y s it handles =
    let come = come_first life budget log conf p shelf top faults w Stop f all now y s (λ n. n) it in
    let led = stops_silently (life.terms budget) (log ++ Waits w ∷ []) (λ n. n) w (awaiting (opened_at p shelf top log faults) f all now) y (ending s) come.stands come.came handles it.bounded it.straight in
    quiet_first life budget log conf p shelf top faults w Stop f all now y s (λ n. n) it _ handles.1 led.0 led.1 refl
    (λ few. stops_carry (life.terms budget) (log ++ Waits w ∷ []) (λ n. n) shelf (awaiting (opened_at p shelf top log faults) f all now) y (rest_with w (ending s)) (first_before life budget log conf p shelf top faults w Stop f all now y s (λ n. n) it handles) handles few led.0)
    handles (as_stopped (λ n. n) (awaiting (opened_at p shelf top log faults) f all now) y (rest_with w (ending s)) handles led.0 (counted_before life budget log conf p shelf top faults w Stop f all now y s (λ n. n) it))
first_handled (Tick seconds) life budget log conf p shelf top faults w f all now y s it handles =
    let come = come_first life budget log conf p shelf top faults w (Tick seconds) f all now y s (λ n. n) it in
    let led = ticks_silently seconds (life.terms budget) (log ++ Waits w ∷ []) (λ n. n) w (awaiting (opened_at p shelf top log faults) f all now) y (ending s) come.stands come.came handles it.bounded it.straight in
    quiet_first life budget log conf p shelf top faults w (Tick seconds) f all now y s (λ n. n) it _ handles.1 led.0 led.1 refl
    (λ few. ticks_carry (life.terms budget) (log ++ Waits w ∷ []) (λ n. n) shelf seconds (awaiting (opened_at p shelf top log faults) f all now) y (rest_with w (ending s)) (first_before life budget log conf p shelf top faults w (Tick seconds) f all now y s (λ n. n) it handles) handles few (may_note life budget log conf p shelf top faults w (Tick seconds) f all now y s (λ n. n) it) led.0)
    handles (as_ticked seconds (λ n. n) (awaiting (opened_at p shelf top log faults) f all now) y (rest_with w (ending s)) (first_before life budget log conf p shelf top faults w (Tick seconds) f all now y s (λ n. n) it handles).stands handles led.0 (counted_before life budget log conf p shelf top faults w (Tick seconds) f all now y s (λ n. n) it))
first_handled (Accepted c) life budget log conf p shelf top faults w f all now y s it handles =
    let come = come_first life budget log conf p shelf top faults w (Accepted c) f all now y s (λ n. n) it in
    let led = clients_silently c (life.terms budget) (log ++ Waits w ∷ []) (λ n. n) w (awaiting (opened_at p shelf top log faults) f all now) y (ending s) come.stands come.came handles it.bounded it.straight in
    quiet_first life budget log conf p shelf top faults w (Accepted c) f all now y s (λ n. n) it _ handles.1 led.0 led.1 refl
    (λ few. accepts_carry (life.terms budget) (log ++ Waits w ∷ []) (λ n. n) shelf c (awaiting (opened_at p shelf top log faults) f all now) y (rest_with w (ending s)) (first_before life budget log conf p shelf top faults w (Accepted c) f all now y s (λ n. n) it handles) (is_seated c (awaiting (opened_at p shelf top log faults) f all now) y handles it.straight) handles.1 few led.0)
    handles (as_accepted c (λ n. n) (awaiting (opened_at p shelf top log faults) f all now) y (rest_with w (ending s)) handles led.0 (counted_before life budget log conf p shelf top faults w (Accepted c) f all now y s (λ n. n) it))
first_handled (Reached k) life budget log conf p shelf top faults w f all now y s it handles =
    let come = come_first life budget log conf p shelf top faults w (Reached k) f all now y s (λ n. n) it in
    let led = reached_silently k (life.terms budget) (log ++ Waits w ∷ []) (λ n. n) w (awaiting (opened_at p shelf top log faults) f all now) y (ending s) come.stands come.came handles it.bounded it.straight in
    quiet_first life budget log conf p shelf top faults w (Reached k) f all now y s (λ n. n) it _ handles.1 led.0 led.1 refl
    (λ few. reaches_carry (life.terms budget) (log ++ Waits w ∷ []) (λ n. n) shelf k (awaiting (opened_at p shelf top log faults) f all now) y (rest_with w (ending s)) (first_before life budget log conf p shelf top faults w (Reached k) f all now y s (λ n. n) it handles) handles few led.0)
    handles (as_reached k (λ n. n) (awaiting (opened_at p shelf top log faults) f all now) y (rest_with w (ending s)) handles led.0 (counted_before life budget log conf p shelf top faults w (Reached k) f all now y s (λ n. n) it))
first_handled (Broken k) life budget log conf p shelf top faults w f all now y s it handles =
    let come = come_first life budget log conf p shelf top faults w (Broken k) f all now y s (λ n. n) it in
    let led = broken_silently k (life.terms budget) (log ++ Waits w ∷ []) (λ n. n) w (awaiting (opened_at p shelf top log faults) f all now) y (ending s) come.stands come.came handles it.bounded it.straight in
    quiet_first life budget log conf p shelf top faults w (Broken k) f all now y s (λ n. n) it _ handles.1 led.0 led.1 refl
    (λ few. breaks_carry (life.terms budget) (log ++ Waits w ∷ []) (λ n. n) shelf k (awaiting (opened_at p shelf top log faults) f all now) y (rest_with w (ending s)) (first_before life budget log conf p shelf top faults w (Broken k) f all now y s (λ n. n) it handles) handles few (may_note life budget log conf p shelf top faults w (Broken k) f all now y s (λ n. n) it) led.0)
    handles (as_broken k (λ n. n) (awaiting (opened_at p shelf top log faults) f all now) y (rest_with w (ending s)) (first_before life budget log conf p shelf top faults w (Broken k) f all now y s (λ n. n) it handles).stands handles led.0 (counted_before life budget log conf p shelf top faults w (Broken k) f all now y s (λ n. n) it))
first_handled (Readable id) life budget log conf p shelf top faults w f all now y s it handles = absurd (never_read life budget log conf p shelf top faults w (Readable id) f all now y s (λ n. n) it id it.comes.wanted)
first_handled (Writable id) life budget log conf p shelf top faults w f all now y s it handles = absurd (never_written life budget log conf p shelf top faults w (Writable id) f all now y s (λ n. n) it id it.comes.wanted)
