-- From a wait, over its event, to where that is handled: what each event rests on, and what follows, wherever the wait was.
use Rattle.std.proofs.Common.{◌≡◌, ◌≤◌, refl, sym, subst, ap, ◌∙◌, ℕ, ◌+◌, false, List, [], ◌∷◌, ◌++◌, append_assoc, length, Option, Some, arith}
use Rattle.std.specs.Prelude.{count_by}
use Rattle.pp_desk.specs.declared.desk.Desk.{Desk}
use Rattle.pp_events_law.specs.Silent.{IsSilentlyHandled}
use Rattle.pp_events_law.specs.Stands.{AreReadyAt, IsHandled, come}
use Rattle.pp_given_law.proofs.Stands.{given_events, texts_events}
use Rattle.pp_joints_law.specs.Behind.{CarriesOn, HasFew, StandsBefore}
use Rattle.pp_joints_law.specs.Carried.{IsCarried}
use Rattle.pp_joints_law.specs.Unnoted.{KnowsAlike}
use Rattle.pp_law.specs.Phases.{ending}
use Rattle.pp_law.specs.State.{State, Conn, Term}
use Rattle.pp_law.specs.Turn.{rest_with}
use Rattle.pp_laws_sides.proofs.Linked.{links_few}
use Rattle.pp_laws_turn.proofs.Laws.{sound_turns}
use Rattle.pp_links.specs.Links.{AreOpen, IsLinked, Link}
use Rattle.pp_links.proofs.Opening.{next_linked}
use Rattle.pp_links.specs.Waits.{newcomer_of}
use Rattle.pp_obeys.specs.Failures.{fails}
use Rattle.pp_obeys.specs.Moves.{Leads}
use Rattle.pp_obeys.specs.Obeys.{Allows, Life}
use Rattle.pp_places_law.proofs.Links.{as_many}
use Rattle.pp_proxy.specs.Awaiting.{Standing}
use Rattle.pp_proxy.specs.Handling.{Handles, IsSilent}
use Rattle.pp_proxy.specs.Moving.{Turning}
use Rattle.pp_rounds_law.proofs.Coming.{none_fail}
use Rattle.pp_rounds_law.specs.Coming.{ComesTo}
use Rattle.pp_reads_law.specs.Keys.{HasRoomForData}
use Rattle.pp_stays_law.specs.Turns.{AreCounted}
use Rattle.pp_store.specs.Kept.{KeptMap}
use Rattle.pp_turn_law.proofs.Along.{then_more}
use Rattle.pp_turn_law.proofs.Awaited.{dialled_then, still_open}
use Rattle.pp_turn_law.proofs.DeskOn.{events_set}
use Rattle.pp_turn_law.proofs.HandledSo.{same_conns}
use Rattle.pp_turn_law.proofs.Kept.{some_log}
use Rattle.pp_turn_law.specs.Awaited.{Comes, HasComeBehind, StandsBeside, awaiting}
use Rattle.pp_turn_law.specs.Handled.{IsHandledOn}
use Rattle.pp_turn_law.specs.Supplied.{StandsGiven}
use Rattle.pp_turn_law.specs.Waited.{HasWaitedOn}
use Rattle.pp_world.specs.Log.{Log}
use Rattle.pp_world.specs.Wire.{event_happening, top_after}
use Rattle.pp_world.specs.declared.event.Event.{Event}
use Rattle.pp_world.specs.declared.event.Wants.{Wants}
use Rattle.pp_world.specs.declared.happening.Happening.TheVariants.{Waits}

module _ (life : Life) (budget : ℕ) (log : Log) (w : Wants) (event : Event) (x : Standing) (f : Desk) (all : Log) (faults : ℕ) (s : State) (number : ℕ → ℕ) (clients : ℕ) (told : x.turning.log ≡ Some log) (waited : HasWaitedOn life budget log x w clients f number s) (beside : StandsBeside x f) (comes : Comes w event x all) where
  abbrev terms : List Term
  terms = life.terms budget

  abbrev came : Turning
  came = awaiting x f all faults

  abbrev waiting : Log
  waiting = log ++ Waits w ∷ []

  abbrev rested : State
  rested = rest_with w (ending s)

  -- ---- it comes

  had : (k : Log) × (x.turning.log ≡ Some k) × (all ≡ k ++ (Waits w ∷ event_happening event ∷ []))
  had = comes.told.was all refl

  all_is : all ≡ (log ++ Waits w ∷ []) ++ event_happening event ∷ []
  all_is = had.2 ∙ ap (λ (k : Log). k ++ (Waits w ∷ event_happening event ∷ [])) (some_log had.0 log (sym had.1 ∙ told)) ∙ sym (append_assoc log (Waits w ∷ []) (event_happening event ∷ []))

  wait_linked : IsLinked (Some (log ++ Waits w ∷ [])) x.turning.moving.top x.turning.moving.links
  wait_linked = record {
    given = beside.linked.given;
    apart = beside.linked.apart;
    opened = record { at = λ l is. subst (λ (k : Log). AreOpen x.turning.moving.links k) (some_log (log ++ Waits w ∷ []) l is) (still_open log w x.turning.moving.links (beside.linked.opened.at log told)) };
  }

  pub come_from : HasComeBehind life budget log number w event x f all faults s
  come_from = record {
    stands = record {
      obeys = waited.comes.obeys;
      stands = waited.awaits.stands;
      ready = waited.awaits.ready;
      good = waited.good;
      gets = waited.gets;
      still = waited.rests.still;
      given = waited.given;
      closed = waited.rests.closed;
      waiting = waited.carried.waiting;
      placed = waited.carried.placed;
      looks = waited.carried.set.room;
      buffer = beside.buffer;
      holds = beside.holds;
      linked = wait_linked;
    };
    came = record {
      wanted = comes.wanted;
      dialled = dialled_then log w event (comes.dialled.at log told);
      numbered = comes.numbered;
      told = ap (λ (l : Log). Some l) all_is;
      linked = next_linked x.turning.moving.top (top_after x.turning.moving.top event) x.turning.moving.links w event (newcomer_of event) refl beside.linked comes.told comes.numbered refl;
    };
  }

  -- ---- it is handled

  module _ (y : Turning) (alike : KnowsAlike f rested) (allows : Allows life budget x.turning.faults s) (more : x.turning.faults ≤ faults) (straight : y.moving.desk.state.is_astray ≡ false) (handles : Handles event (come event came) y) where
    pub before_from : StandsBefore terms waiting number x.turning.shelf came.moving rested
    before_from = record { obeys = waited.comes.obeys; stands = waited.awaits.stands; carried = waited.carried; forgotten = alike.forgotten; evicting = alike.evicting }

    -- there is room for what one read brings
    room : HasRoomForData (come event came)
    room = omega (arith, beside.buffer, beside.holds)

    same_name : y.moving.desk.state.name.items ≡ f.state.name.items
    same_name = (events_set event (come event came) y room handles).name

    -- by what is added behind the event, in which the outside did not fail, and behind which each connection is open as it was
    module _ (t : State) (hs : Log) (shelf : y.shelf ≡ x.turning.shelf) (counted : faults ≤ y.faults) (now : y.log ≡ Some (log ++ (Waits w ∷ event_happening event ∷ hs))) (linked : IsLinked y.log y.moving.top y.moving.links)
        (leads : Leads (event_happening event ∷ hs) rested t) (handled : IsHandled number y.moving t) (ready : AreReadyAt number y.moving t) (calm : count_by fails (event_happening event ∷ hs) ≡ 0) (carries : HasFew y.moving → CarriesOn x.turning.shelf y.moving handled.handled)
        (counts : AreCounted y.moving.desk.state handled.handled) where
      went : ComesTo terms log (Waits w ∷ event_happening event ∷ hs) s t
      went = then_more terms log (Waits w ∷ []) (event_happening event ∷ hs) s rested t waited.comes (none_fail rested (count_by fails (event_happening event ∷ hs)) calm) leads

      few : HasFew y.moving
      few =
          let links : length y.moving.links ≤ length t.clients + length t.conns =
          links_few terms t (log ++ (Waits w ∷ event_happening event ∷ hs)) y.moving.top y.moving.links went.obeys (subst (λ (l : Option Log). IsLinked l y.moving.top y.moving.links) now linked) in
          let clients_few : length t.clients ≤ 256 = (sound_turns terms t (log ++ (Waits w ∷ event_happening event ∷ hs)) went.obeys).bounded.clients in
          let peers : length y.moving.desk.peers ≡ length handled.handled.conns = as_many handled.handled y.moving.desk.peers handled.handled.conns handled.stands.desk.turn.steps.shows.conns in
          let conns : length t.conns ≡ length handled.handled.conns = ap (λ (ks : List Conn). length ks) (same_conns handled.handled t handled.anew) in
          omega (arith, links, clients_few, peers, conns)

      none : count_by fails (Waits w ∷ event_happening event ∷ hs) ≡ 0
      none = calm

      failed : t.failures + life.base ≤ y.faults
      failed = omega (arith, went.failures, none, allows.failed, more, counted)

      supplied : StandsGiven y.moving.desk.state handled.handled
      supplied = record {
        given = given_events event (come event came) y room handles straight waited.supplied.given;
        texts = texts_events event (come event came) y waited.supplied.name room handles straight waited.supplied.texts;
        counted = counts;
        name = subst (λ (name : List ℕ). length name ≤ 64) (sym same_name) waited.supplied.name;
      }

      pub handled_from : IsHandledOn life budget log w event y
      handled_from = record {
        added = hs;
        number = number;
        then = t;
        stands = record {
          obeys = went.obeys;
          allows = record { failed = failed; allowed = subst (λ (term : Term). budget ≤ term.faults) (sym went.term) allows.allowed };
          told = now;
          handled = handled;
          ready = ready;
          carried = subst (λ (k : KeptMap). IsCarried k y.moving handled.handled) (sym shelf) (carries few).carried;
          leave = (carries few).leaves;
          supplied = supplied;
        };
      }

    -- ---- where nothing is

    module _ (quiet : IsSilent (come event came) y) where
      quiet_told : y.log ≡ Some (log ++ (Waits w ∷ event_happening event ∷ []))
      quiet_told = quiet.told ∙ come_from.came.told ∙ ap (λ (l : Log). Some l) (append_assoc log (Waits w ∷ []) (event_happening event ∷ []))

      quiet_linked : IsLinked y.log y.moving.top y.moving.links
      quiet_linked =
          subst (λ (l : Option Log). IsLinked l y.moving.top y.moving.links) (sym quiet.told)
          (subst (λ (top : ℕ). IsLinked came.log top y.moving.links) (sym quiet.top) (subst (λ (links : List Link). IsLinked came.log (come event came).moving.top links) (sym quiet.links) come_from.came.linked))

    pub quiet_from : (t : State) → IsSilent (come event came) y → (led : IsSilentlyHandled number (event_happening event) y rested t) → AreReadyAt number y.moving t → count_by fails (event_happening event ∷ []) ≡ 0 → (HasFew y.moving → CarriesOn x.turning.shelf y.moving led.handled.handled)
        → AreCounted y.moving.desk.state led.handled.handled → IsHandledOn life budget log w event y
    quiet_from t quiet led ready calm carries counts = handled_from t [] quiet.shelf quiet.count (quiet_told quiet) (quiet_linked quiet) led.leads led.handled ready calm carries counts
