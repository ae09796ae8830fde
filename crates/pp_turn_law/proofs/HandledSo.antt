-- From the end of a turn, over its wait, to where an event is handled: what each of them rests on, and what follows.
use Rattle.std.proofs.Common.{◌≡◌, ◌≤◌, sym, subst, ap, ◌∙◌, ℕ, ◌+◌, List, [], ◌∷◌, ◌++◌, append_assoc, length, Option, Some, arith}
use Rattle.std.specs.Prelude.{count_by}
use Rattle.pp_desk.specs.declared.desk.Desk.{Desk}
use Rattle.pp_events_law.specs.Silent.{IsSilentlyHandled}
use Rattle.pp_events_law.specs.Stands.{AreReadyAt, IsHandled, come}
use Rattle.pp_given_law.proofs.Stands.{given_events, texts_events}
use Rattle.pp_joints_law.proofs.Unnoted.{waits_none}
use Rattle.pp_joints_law.specs.Behind.{CarriesOn, HasFew, StandsBefore}
use Rattle.pp_joints_law.specs.Carried.{IsCarried}
use Rattle.pp_joints_law.specs.Unnoted.{KnowsAlike}
use Rattle.pp_law.specs.Phases.{ending}
use Rattle.pp_law.specs.Replies.{regained}
use Rattle.pp_law.specs.State.{State, Conn, Term}
use Rattle.pp_law.specs.Turn.{rest_with}
use Rattle.pp_laws_sides.proofs.Linked.{links_few}
use Rattle.pp_laws_turn.proofs.Laws.{sound_turns}
use Rattle.pp_links.specs.Links.{IsLinked, Link}
use Rattle.pp_obeys.specs.Failures.{fails}
use Rattle.pp_obeys.specs.Moves.{Leads}
use Rattle.pp_obeys.specs.Obeys.{Life}
use Rattle.pp_places_law.proofs.Links.{as_many}
use Rattle.pp_proxy.specs.Awaiting.{Standing}
use Rattle.pp_proxy.specs.Handling.{Handles, IsSilent}
use Rattle.pp_proxy.specs.Moving.{Turning}
use Rattle.pp_reads_law.specs.Keys.{HasRoomForData}
use Rattle.pp_rounds_law.proofs.Coming.{none_fail}
use Rattle.pp_rounds_law.specs.Coming.{ComesTo}
use Rattle.pp_stays_law.specs.Turns.{AreCounted}
use Rattle.pp_store.specs.Kept.{KeptMap}
use Rattle.pp_turn_law.proofs.Along.{then_more}
use Rattle.pp_turn_law.proofs.Awaited.{come_behind}
use Rattle.pp_turn_law.proofs.DeskOn.{events_set}
use Rattle.pp_turn_law.proofs.Waited.{turns_wait}
use Rattle.pp_turn_law.specs.Awaited.{HasComeBehind, awaiting}
use Rattle.pp_turn_law.specs.Handled.{IsHandledOn, Turns}
use Rattle.pp_turn_law.specs.Supplied.{StandsGiven}
use Rattle.pp_turn_law.specs.Waited.{HasWaitedOn}
use Rattle.pp_world.specs.Log.{Log}
use Rattle.pp_world.specs.Wire.{event_happening}
use Rattle.pp_world.specs.declared.event.Event.{Event}
use Rattle.pp_world.specs.declared.event.Wants.{Wants}
use Rattle.pp_world.specs.declared.happening.Happening.TheVariants.{Waits}

-- attempts count anew for clients alone
pub same_conns : (s t : State) → t ≡ regained s → t.conns ≡ s.conns
unfolding regained
same_conns s t is = ap (λ (u : State). u.conns) is

module _ (life : Life) (budget : ℕ) (log : Log) (w : Wants) (event : Event) (x : Standing) (f : Desk) (all : Log) (faults : ℕ) (y : Turning) (s : State) (it : Turns life budget log w event x f all faults y s) where
  abbrev terms : List Term
  terms = life.terms budget

  abbrev number : ℕ → ℕ
  number = it.stands.number

  abbrev came : Turning
  came = awaiting x f all faults

  abbrev waiting : Log
  waiting = log ++ Waits w ∷ []

  abbrev rested : State
  rested = rest_with w (ending s)

  pub waited : HasWaitedOn life budget log x w it.clients f number s
  waited = turns_wait life budget log x w it.clients it.awaiting f s it.stands it.awaits it.rests

  pub come_so : HasComeBehind life budget log number w event x f all faults s
  come_so = come_behind life budget log x w it.clients it.awaiting f event all faults s it.stands it.awaits it.rests it.beside it.comes

  alike : KnowsAlike f rested
  alike = waits_none x.read w it.clients x.turning.moving.desk it.awaiting f (ending s) it.awaits it.rests it.stands.noted

  pub before : StandsBefore terms waiting number x.turning.shelf came.moving rested
  before = record { obeys = waited.comes.obeys; stands = waited.awaits.stands; carried = waited.carried; forgotten = alike.forgotten; evicting = alike.evicting }

  -- there is room for what one read brings
  room : HasRoomForData (come event came)
  room = omega (arith, it.beside.buffer, it.beside.holds)

  pub supplied_before : StandsGiven f.state rested
  supplied_before = waited.supplied

  pub supplied_behind : (t : State) → Handles event (come event came) y → AreCounted y.moving.desk.state t → StandsGiven y.moving.desk.state t
  supplied_behind t handles counts = record {
    given = given_events event (come event came) y room handles it.straight waited.supplied.given;
    texts = texts_events event (come event came) y waited.supplied.name room handles it.straight waited.supplied.texts;
    counted = counts;
    name = subst (λ (name : List ℕ). length name ≤ 64) (sym (events_set event (come event came) y room handles).name) waited.supplied.name;
  }

  -- by what is added behind the event, in which the outside did not fail, and behind which each connection is open as it was
  module _ (t : State) (hs : Log) (shelf : y.shelf ≡ x.turning.shelf) (counted : faults ≤ y.faults) (told : y.log ≡ Some (log ++ (Waits w ∷ event_happening event ∷ hs))) (linked : IsLinked y.log y.moving.top y.moving.links)
      (leads : Leads (event_happening event ∷ hs) rested t) (handled : IsHandled number y.moving t) (ready : AreReadyAt number y.moving t) (calm : count_by fails (event_happening event ∷ hs) ≡ 0) (carries : HasFew y.moving → CarriesOn x.turning.shelf y.moving handled.handled)
      (handles : Handles event (come event came) y) (counts : AreCounted y.moving.desk.state handled.handled) where
    went : ComesTo terms log (Waits w ∷ event_happening event ∷ hs) s t
    went = then_more terms log (Waits w ∷ []) (event_happening event ∷ hs) s rested t waited.comes (none_fail rested (count_by fails (event_happening event ∷ hs)) calm) leads

    few : HasFew y.moving
    few =
        let links : length y.moving.links ≤ length t.clients + length t.conns =
        links_few terms t (log ++ (Waits w ∷ event_happening event ∷ hs)) y.moving.top y.moving.links went.obeys (subst (λ (l : Option Log). IsLinked l y.moving.top y.moving.links) told linked) in
        let clients : length t.clients ≤ 256 = (sound_turns terms t (log ++ (Waits w ∷ event_happening event ∷ hs)) went.obeys).bounded.clients in
        let peers : length y.moving.desk.peers ≡ length handled.handled.conns = as_many handled.handled y.moving.desk.peers handled.handled.conns handled.stands.desk.turn.steps.shows.conns in
        let conns : length t.conns ≡ length handled.handled.conns = ap (λ (ks : List Conn). length ks) (same_conns handled.handled t handled.anew) in
        omega (arith, links, clients, peers, conns)

    none : count_by fails (Waits w ∷ event_happening event ∷ hs) ≡ 0
    none = calm

    failed : t.failures + life.base ≤ y.faults
    failed = omega (arith, went.failures, none, it.stands.allows.failed, it.counted, counted)

    pub handled_on : IsHandledOn life budget log w event y
    handled_on = record {
      added = hs;
      number = number;
      then = t;
      stands = record {
        obeys = went.obeys;
        allows = record { failed = failed; allowed = subst (λ (term : Term). budget ≤ term.faults) (sym went.term) it.stands.allows.allowed };
        told = told;
        handled = handled;
        ready = ready;
        carried = subst (λ (k : KeptMap). IsCarried k y.moving handled.handled) (sym shelf) (carries few).carried;
        leave = (carries few).leaves;
        supplied = supplied_behind handled.handled handles counts;
      };
    }

  -- ---- where nothing is

  module _ (quiet : IsSilent (come event came) y) where
    pub quiet_told : y.log ≡ Some (log ++ (Waits w ∷ event_happening event ∷ []))
    quiet_told = quiet.told ∙ come_so.came.told ∙ ap (λ (l : Log). Some l) (append_assoc log (Waits w ∷ []) (event_happening event ∷ []))

    pub quiet_linked : IsLinked y.log y.moving.top y.moving.links
    quiet_linked =
        subst (λ (l : Option Log). IsLinked l y.moving.top y.moving.links) (sym quiet.told)
        (subst (λ (top : ℕ). IsLinked came.log top y.moving.links) (sym quiet.top) (subst (λ (links : List Link). IsLinked came.log (come event came).moving.top links) (sym quiet.links) come_so.came.linked))

  pub quiet_on : (t : State) → IsSilent (come event came) y → (led : IsSilentlyHandled number (event_happening event) y rested t) → AreReadyAt number y.moving t → count_by fails (event_happening event ∷ []) ≡ 0 → (HasFew y.moving → CarriesOn x.turning.shelf y.moving led.handled.handled)
      → Handles event (come event came) y → AreCounted y.moving.desk.state led.handled.handled → IsHandledOn life budget log w event y
  quiet_on t quiet led ready calm carries handles counts = handled_on t [] quiet.shelf quiet.count (quiet_told quiet) (quiet_linked quiet) led.leads led.handled ready calm carries handles counts
