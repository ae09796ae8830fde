-- Exchanges get their places as by the law, and the law goes on to the decisions behind them.
use Rattle.std.proofs.Common.{◌≡◌, ◌≤◌, refl, sym, subst, ap, ◌∙◌, ℕ, Bool, true, false, ◌||◌, List, [], ◌∷◌, ◌++◌, append-nil, Some, None}
use Rattle.std.specs.List.{list_any}
use Rattle.std.specs.Prelude.{vec_capacity}
use Rattle.pp_cache_law.proofs.Numbers.{is_same}
use Rattle.pp_desk.specs.declared.desk.Desk.{Desk}
use Rattle.pp_flow_law.specs.Tables.{none_leaves}
use Rattle.pp_law.specs.Connections.{conn, is_conn, on_conn, on_exchange, placing, put_on}
use Rattle.pp_law.specs.Phases.{behind, has_closings, in_phase, next}
use Rattle.pp_law.specs.State.{State, Conn, Phase, Term, Connecting, DecidingAgain}
use Rattle.pp_laws.proofs.Lists.{in_find}
use Rattle.pp_laws.specs.Runs.{IsIn}
use Rattle.pp_laws_bounds.proofs.Places.{placing-any}
use Rattle.pp_laws_turn.proofs.Laws.{sound_turns}
use Rattle.pp_laws_turn.specs.SoundTurn.{IsSoundTurn}
use Rattle.pp_obeys.proofs.Frames.{Frame, frame}
use Rattle.pp_obeys.proofs.StaysTurns.{placing-frame}
use Rattle.pp_obeys.specs.Obeys.{Obeys}
use Rattle.pp_places.specs.Around.{around, moment_of}
use Rattle.pp_places_law.proofs.Fits.{any_mapped, longer_if}
use Rattle.pp_places_law.proofs.Links.{counted}
use Rattle.pp_places_law.specs.Around.{MayPlace, ShowsAround}
use Rattle.pp_places_law.specs.Closings.{AreOpen}
use Rattle.pp_places_law.specs.Places.{AreLed, HavePlaces}
use Rattle.pp_proxy.specs.Moving.{Moving}
use Rattle.pp_proxy.specs.Rounds.{Places}
use Rattle.pp_rounds_law.specs.Decisions.{Passes}
use Rattle.pp_state.specs.Ends.{numbers_of, parts}
use Rattle.pp_state.specs.declared.state.State.{State as Turn}
use Rattle.pp_states_law.specs.Steps.{ShowsSteps}
use Rattle.pp_store.specs.Kept.{KeptMap}
use Rattle.pp_turns_law.specs.Turns.{ShowsTurn}
use Rattle.pp_world.specs.Log.{Log}
use Rattle.pp_rounds_law.proofs.Carried.{Carries}
use Rattle.pp_rounds_law.proofs.Coming.{comes_by, comes_silently, comes_then, enough_of, brief_before}
use Rattle.pp_rounds_law.proofs.Led.{places_lead}
use Rattle.pp_rounds_law.proofs.Places.{carries_places}
use Rattle.pp_rounds_law.proofs.Seated.{stays_seated}
use Rattle.pp_rounds_law.proofs.Ready.{awake_on, ready_on, sourced}
use Rattle.pp_rounds_law.specs.Coming.{Affords, ComesTo, IsBrief}
use Rattle.pp_rounds_law.specs.Stands.{StandsAmid}
use Rattle.pp_rounds_law.specs.Steps.{HavePlacesNow, PlacesInARound}
use Rattle.pp_rounds_law.specs.Supplies.{RoundSupplies}

next_again : (s : State) → s.phase ≡ Connecting → next s ≡ (placing (in_phase DecidingAgain s)).state
unfolding next
next_again s at = ap (λ (p : Phase). behind p s) at

again_frame : (s : State) → s.phase ≡ Connecting → frame true (next s) ≡ frame true (in_phase DecidingAgain s)
again_frame s at = ap (λ (t : State). frame true t) (next_again s at) ∙ placing-frame true (in_phase DecidingAgain s)

-- places close nobody
closed_put : (n k : ℕ) (s : State) → has_closings (put_on n k s) ≡ has_closings s
unfolding put_on on_conn on_exchange
closed_put n k s = ap (λ (b : Bool). list_any (λ c. c.is_closing) s.clients || b) (any_mapped (λ (j : Conn). j.is_closing) (longer_if n k) s.conns (λ j. by j (is_conn k j)))
  where
    by : (j : Conn) (b : Bool) → (elim b as (λ t. Conn) [ true ↦ record j { line = j.line ++ n ∷ [] } | false ↦ j ]).is_closing ≡ j.is_closing
    by j true = refl
    by j false = refl

none_closing : (s : State) → has_closings s ≡ false → has_closings (placing s).state ≡ false
none_closing s none = placing-any (λ t. has_closings t ≡ false) (λ n k t is. closed_put n k t ∙ is) s none

given_conn : (s : State) → IsSoundTurn s → (n : ℕ) (k : Conn) → conn s n ≡ Some k → n ≤ s.top
given_conn s sound n k there =
    let found : IsIn k s.conns × (is_conn n k ≡ true) = in_find (is_conn n) k s.conns there in
    subst (λ (m : ℕ). m ≤ s.top) (is_same k.number n found.1) (sound.numbers.conns_given k found.0)

module _ (terms : List Term) (most : ℕ) (before : Log) (number : ℕ → ℕ) (shelf : KeptMap) (I : Turn → State → Type 0) (x y : Moving) (log : Log) (s : State) (supplies : RoundSupplies terms most shelf I) (obeys : Obeys terms s before) (brief : IsBrief most (before ++ log)) (amid : StandsAmid number shelf x s) (holds : I x.desk.state s) (affords : Affords s log)
    (at : s.phase ≡ Connecting) (closed : has_closings s ≡ false) (places : Places x log y) (well : y.desk.state.is_astray ≡ false) where
  abbrev p : Turn
  p = x.desk.state

  abbrev q : Turn
  q = y.desk.state

  sound : IsSoundTurn s
  sound = sound_turns terms s before obeys

  shows : ShowsAround number p (around x.desk x.links x.top) s
  shows = record {
    turn = record { steps = amid.turn.steps; name = amid.turn.name; shares = amid.turn.shares; clock = amid.turn.clock; ticked = amid.turn.ticked; stopped = amid.turn.stopped; bounded = amid.turn.bounded };
    limits = amid.limits;
    waiting = amid.waiting;
    placed = amid.placed;
    linked = amid.linked;
    given = amid.given;
    few = amid.few;
    top = amid.top;
  }

  may : MayPlace s
  may = record { connecting = record { at = at; none = amid.none }; going = amid.going; closed = closed; apart = λ n. sound.apart.conns n; given = given_conn s sound }

  led : AreLed number p log (around y.desk y.links y.top) s
  led =
      places_lead terms most before number p (around x.desk x.links x.top) s 65536 log (around y.desk y.links y.top) obeys (record { shows = shows; is = refl; ready = amid.ready; awake = amid.awake }) may affords brief
      (supplies.dials before number x s obeys (brief_before most before log brief) amid holds shows may) places.is

  state_is : record q { seats = p.seats; flow = p.flow; cache = p.cache; refused = p.refused; is_astray = p.is_astray } ≡ p
  state_is = ap (λ (d : Desk). d.state) places.rest

  carried : Carries false (parts p) (parts q)
  carried = carries_places 65536 (moment_of p) None (around x.desk x.links x.top) (around y.desk y.links y.top) log places.is

  seated : AreOpen (numbers_of p.seats.items) y.links
  seated =
      (stays_seated 65536 (numbers_of p.seats.items) (moment_of p) None (around x.desk x.links x.top) (around y.desk y.links y.top) log
      (record { seated = amid.seated; linked = amid.linked; given = amid.given; once = λ n. subst (λ (i : ℕ). i ≤ 1) (sym (counted n s x.desk.peers s.conns amid.turn.steps.shows.conns)) (sound.apart.conns n) }) places.is).seated

  module _ (have : HavePlaces number p (around y.desk y.links y.top) led.state) where
    abbrev t : State
    t = next led.state

    came : ComesTo terms before log s led.state
    came = comes_by terms log before s led.state (enough_of s log affords) obeys led.leads

    comes : ComesTo terms before log s t
    comes =
        subst (λ (hs : Log). ComesTo terms before hs s t) (append-nil log)
        (comes_then terms before log [] s led.state t came (comes_silently terms (before ++ log) led.state came.obeys have.done))

    same_name : q.name.items ≡ p.name.items
    same_name = ap (λ (r : Turn). r.name.items) state_is

    again : frame true t ≡ frame true (in_phase DecidingAgain led.state)
    again = again_frame led.state have.may.connecting.at

    turn : ShowsTurn number none_leaves y.desk.peers q t
    turn = record {
      steps = subst (λ (n : List ℕ). ShowsSteps number n none_leaves y.desk.peers (parts q) t) (sym same_name) have.behind.turn.steps;
      name = same_name ∙ have.behind.turn.name;
      shares = ap (λ (r : Turn). r.shares_fetches) state_is ∙ have.behind.turn.shares;
      clock = ap (λ (r : Turn). r.now) state_is ∙ have.behind.turn.clock;
      ticked = ap (λ (r : Turn). r.is_ticked) state_is ∙ have.behind.turn.ticked;
      stopped = ap (λ (r : Turn). r.is_stopped) state_is ∙ have.behind.turn.stopped;
      bounded = have.behind.turn.bounded;
    }

    sound_then : IsSoundTurn t
    sound_then = sound_turns terms t (before ++ log) comes.obeys

    nobody : has_closings t ≡ false
    nobody = subst (λ (u : State). has_closings u ≡ false) (sym (next_again led.state have.may.connecting.at)) (none_closing (in_phase DecidingAgain led.state) have.may.closed)

    amid_then : StandsAmid number shelf y t
    amid_then = record {
      turn = turn;
      ready =
          ready_on number q.name.items p.cache q.cache s.next_instance p.seats.items q.seats.items s t amid.turn.steps.shows.table.table amid.ready (λ j new here. (j, carried.each j new here)) carried.memory turn.steps.shows.table.table turn.steps.shows.clients
          (sourced t sound_then);
      kept = amid.kept;
      awake = awake_on false p q carried (ap (λ (r : Turn). r.awake.items) state_is) (ap (λ (r : Turn). r.is_ticked) state_is) amid.awake;
      none = ap (λ (o : Frame). o.made_room_for) again ∙ have.may.connecting.none;
      going = ap (λ (o : Frame). o.is_stopped) again ∙ have.may.going;
      limits = ap (λ (r : Turn). r.limits) state_is ∙ have.behind.limits;
      waiting = have.behind.waiting;
      placed = have.behind.placed;
      linked = have.behind.linked;
      seated = subst (λ (ns : List ℕ). AreOpen ns y.links) (sym places.numbers) seated;
      given = have.behind.given;
      few = have.behind.few;
      top = have.behind.top;
      room = subst (λ (r : Turn). 256 ≤ vec_capacity r.awake) (sym state_is) amid.room;
      away = ap (λ (d : Desk). d.turned_away) places.rest ∙ amid.away;
    }

    have_places : HavePlacesNow terms before number shelf I y log s
    have_places = record {
      then = t;
      comes = comes;
      phase = ap (λ (o : Frame). o.phase) again;
      closed = nobody;
      amid = amid_then;
      holds = supplies.placed before number x y log s led.state obeys (brief_before most before log brief) amid holds at closed places led.leads have.done comes.obeys brief amid_then well;
    }

  pub places_end : HavePlacesNow terms before number shelf I y log s
  places_end = have_places (led.ends well)

pub places_led : PlacesInARound
places_led terms most before number shelf test x y log s supplies obeys brief amid holds affords at closed places well = places_end terms most before number shelf (Passes test) x y log s supplies obeys brief amid holds affords at closed places well
