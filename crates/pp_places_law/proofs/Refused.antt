-- A dial is refused: its exchange is asked elsewhere, or is over.
use Rattle.std.proofs.Common.{◌≡◌, ◌≤◌, ◌+◌, refl, sym, subst, ap, ap₂, ◌∙◌, ℕ, Bool, true, false, ◌&&◌, List, [], ◌∷◌, Option, Some, None, Result, Ok, Err}
use Rattle.std.specs.Result.{result_unwrap_or}
use Rattle.pp_cache.specs.Bounds.{IsBounded}
use Rattle.pp_cache_law.specs.Pairs.{AreBoth}
use Rattle.pp_turns_law.proofs.AllDropped.{stays as stays_there}
use Rattle.pp_turns_law.proofs.Over.{over_conns, over_with}
use Rattle.pp_turns_law.proofs.StandsIn.{nowhere}
use Rattle.pp_turns_law.proofs.All.{fills_all}
use Rattle.pp_turns_law.specs.Fills.{IsFilledAs}
use Rattle.pp_desk.specs.Closings.{Sides, with_parts}
use Rattle.pp_flow.specs.Changes.{entry_of}
use Rattle.pp_flow.specs.declared.entry.Entry.{Entry}
use Rattle.pp_flow_law.specs.Tables.{none_leaves}
use Rattle.pp_law.specs.After.{after, changed, refused_dial, undialled}
use Rattle.pp_law.specs.Connections.{Pause, AllPlaced, WaitsDial, WaitsDrop, attempts_of, end_exchange, lose_attempt, lost_one, may_ask_again, placing}
use Rattle.pp_law.specs.Followers.{fill}
use Rattle.pp_law.specs.Lists.{Bytes}
use Rattle.pp_law.specs.Opening.{may_fail}
use Rattle.pp_law.specs.Permits.{IsPermitted, is_permitted, permits, permits_behind_forgotten, permits_dial}
use Rattle.pp_law.specs.State.{State, Client, Exchange}
use Rattle.pp_links.specs.Links.{Link, links_with}
use Rattle.pp_obeys.proofs.Frames.{Frame, Stays, frame, frame_of, stays}
use Rattle.pp_obeys.proofs.StaysAsks.{fill-stays}
use Rattle.pp_obeys.proofs.StaysTable.{end_exchange-stays, lose_attempt-stays}
use Rattle.pp_obeys.specs.Moves.{Leads}
use Rattle.pp_peers.specs.declared.peers.Peer.{Peer}
use Rattle.pp_peers.specs.declared.placing.Limits.{Limits}
use Rattle.pp_places.specs.Around.{Around, moment_of}
use Rattle.pp_places.specs.Placing.{met_at, new_one}
use Rattle.pp_seats_law.specs.Exchanges.{ShowsExchange}
use Rattle.pp_state.specs.Ends.{Parts, ended, lost_attempt, may_ask_again as may_ask_again_in, parts}
use Rattle.pp_state.specs.declared.state.State.{State as Turn}
use Rattle.pp_states_law.proofs.Framed.{states}
use Rattle.pp_states_law.proofs.Lines.{all_found}
use Rattle.pp_states_law.specs.Exchanges.{StandsNowhere}
use Rattle.pp_states_law.proofs.Charged.{losses, lost_given}
use Rattle.pp_states_law.proofs.Lost.{asks_again}
use Rattle.pp_states_law.proofs.Paid.{Before, Stays as StaysThere, charge_stays}
use Rattle.pp_states_law.specs.Charges.{GoesOn, IsFor, IsThere}
use Rattle.pp_states_law.specs.Steps.{ShowsSteps, whole}
use Rattle.pp_take.specs.Filling.{filled}
use Rattle.pp_take.specs.Unplaced.{asked_again_where, refused_dial as refused_in_turn}
use Rattle.pp_turns_law.specs.Turns.{ShowsTurn}
use Rattle.pp_world.specs.Log.{Log}
use Rattle.pp_world.specs.Wire.{dial_happening}
use Rattle.pp_world.specs.declared.happening.Happening.TheVariants.{Undialled}
use Rattle.pp_world.specs.declared.wire.WireFault.{WireFault}
use Rattle.pp_places_law.proofs.Askable.{CanBeAsked, ended_can, filled_can, lost_can}
use Rattle.pp_places_law.proofs.Dials.{IsCalledFor, called_for, log_called, may_call, meets}
use Rattle.pp_places_law.proofs.Fits.{placing_may}
use Rattle.pp_places_law.proofs.Still.{fill_may, lost_may, over_may}
use Rattle.pp_places_law.specs.Around.{MayPlace, ShowsAround}
use Rattle.pp_places_law.specs.Places.{IsLed, IsUnplaced}
use Rattle.pp_places_law.specs.Refusals.{AnswersAreTheLaws, MayBeRefused, MayFillThen, lost_in}

-- ---- the outside failed once more

abbrev failed_in : State → State
failed_in t = record t { failures = t.failures + 1 }

failed_steps : (number : ℕ → ℕ) (name : Bytes) (peers : List Peer) (q : Parts) (t : State) → ShowsSteps number name none_leaves peers q t → ShowsSteps number name none_leaves peers q (failed_in t)
failed_steps number name peers q t steps = record {
  shows = states number name [] none_leaves (whole q peers) t steps.shows (failed_in t) (record { clients = refl; conns = refl; exchanges = refl; next_exchange = refl; instances = refl; next_instance = refl; chunks = refl; kept = λ x. refl });
  order = steps.order;
  told = steps.told;
  refused = steps.refused;
}

failed_may : (t : State) → MayPlace t → MayPlace (failed_in t)
failed_may t may = record { connecting = record { at = may.connecting.at; none = may.connecting.none }; going = may.going; closed = may.closed; apart = may.apart; given = may.given }

-- ---- what the turn has then

abbrev sides_with : Parts → Around → Around
sides_with q x = record x { sides = record x.sides { parts = q } }

-- where the settings, the clock and the numbers that were given are as they were
around_after : (number : ℕ → ℕ) (p : Turn) (x : Around) (t u : State) (q : Parts) → ShowsAround number p x t → ShowsSteps number p.name.items none_leaves x.sides.peers q u → IsBounded q.cache → CanBeAsked q → frame false u ≡ frame false (failed_in t) → ShowsAround number p (sides_with q x) u
around_after number p x t u q shows steps bounded can same = record {
  turn = record {
    steps = steps;
    name = shows.turn.name ∙ sym (ap (λ (f : Frame). f.settings.name) same);
    shares = shows.turn.shares ∙ sym (ap (λ (f : Frame). f.settings.shares_fetches) same);
    clock = shows.turn.clock ∙ sym (ap (λ (f : Frame). f.clock) same);
    ticked = shows.turn.ticked ∙ sym (ap (λ (f : Frame). f.is_ticked) same);
    stopped = shows.turn.stopped ∙ sym (ap (λ (f : Frame). f.is_stopped) same);
    bounded = bounded;
  };
  limits = shows.limits ∙ sym (ap (λ (f : Frame). let l : Limits = record { host_connections = f.settings.host_connections; pipelines_asks = f.settings.pipelines_asks } in l) same);
  waiting = can.0;
  placed = can.1;
  linked = shows.linked;
  given = shows.given;
  few = shows.few;
  top = subst (λ (top : ℕ). top ≤ x.top) (sym (ap (λ (f : Frame). f.top) same)) shows.top;
}

-- an exchange that is there still, without a place, and with a client that goes on
record IsStill (number : ℕ → ℕ) (n : ℕ) (q : Parts) (u : State) : Type 0 where
  entry : Entry
  known : Exchange
  there : IsThere n q u entry known
  place : known.place ≡ None
  goes : IsFor u known GoesOn

module _ (number : ℕ → ℕ) (p : Turn) (x : Around) (t : State) (e : Exchange) (y : Entry) (shows : ShowsAround number p x t) (may : MayPlace t) (un : IsUnplaced t e) (here : entry_of e.number x.sides.parts.flow ≡ Some y) (refusable : MayBeRefused p x t e) where
  abbrev q : Parts
  q = lost_attempt y.exchange x.sides.parts

  abbrev u : State
  u = lost_in e t

  can : CanBeAsked q
  can = lost_can y.exchange x.sides.parts (shows.waiting, shows.placed)

  -- ---- an attempt is lost

  lost : ShowsSteps number p.name.items none_leaves x.sides.peers q u
  lost =
      losses number p.name.items none_leaves x.sides.peers x.sides.parts (failed_in t) (failed_steps number p.name.items x.sides.peers x.sides.parts t shows.turn.steps) e.number y e (record { here = here; there = un.there }) refusable.goes

  lost_stays : Stays false (frame false (failed_in t)) u
  lost_stays = lose_attempt-stays e (failed_in t) (stays refl)

  may_lost : MayPlace u
  may_lost = lost_may e (failed_in t) (failed_may t may) (frame_of lost_stays)

  stays_there_still : StaysThere (failed_in t) u e.number e
  unfolding lose_attempt
  stays_there_still = charge_stays (lost_one (attempts_of e)) (failed_in t) e e.number (lost_given (attempts_of e)) un.there refl

  still : IsStill number e.number q u
  still = by (entry_of e.number q.flow) refl (subst (λ (o : Option Exchange). AreBoth (ShowsExchange number) (entry_of e.number q.flow) o) stays_there_still.there (lost.shows.exchanges.each e.number))
    where
      on : (m : ℕ) (c : Client) → Before (failed_in t) m c → stays_there_still.known.asker ≡ Some m → GoesOn c
      on m c b asks =
          let was : GoesOn b.before = refusable.goes m b.before (stays_there_still.asker m asks) b.there in record { going = b.closing ∙ was.going; given = b.given was.given }

      by : (o : Option Entry) → entry_of e.number q.flow ≡ o → AreBoth (ShowsExchange number) o (Some stays_there_still.known) → IsStill number e.number q u
      by None is both = absurd both
      by (Some z) is both = record {
        entry = z;
        known = stays_there_still.known;
        there = record { here = is; there = stays_there_still.there };
        place = stays_there_still.place ∙ un.waits;
        goes = λ m c asks found. on m c (stays_there_still.follows.client m c found) asks;
      }

  same_again : may_ask_again_in e.number q ≡ may_ask_again u e.number
  same_again = asks_again number p.name.items none_leaves x.sides.peers q u lost e.number still.entry still.known still.there still.goes

  -- ---- it is over

  abbrev over : State
  over = end_exchange e.number u

  stands_nowhere : StandsNowhere e.number u.conns
  stands_nowhere = nowhere number q.flow u lost.shows.exchanges e.number still.known still.there.there still.place u.conns (all_found u may_lost.apart)

  abbrev lost_sides : Sides
  lost_sides = record { parts = q; peers = x.sides.peers }

  over_steps : ShowsSteps number p.name.items none_leaves x.sides.peers (ended e.number q) over
  over_steps = over_with number p.name.items e.number lost_sides u x.sides.peers lost (over_conns number p.name.items e.number lost_sides u lost stands_nowhere)

  over_stays : Stays false (frame false (failed_in t)) over
  over_stays = end_exchange-stays e.number u lost_stays

  may_over : MayPlace over
  may_over = over_may e.number u may_lost (frame_of {all = false} (end_exchange-stays e.number u (stays refl)))

  -- ---- followers ask

  abbrev asked : Parts
  asked = filled p.is_stopped p.name.items p.awake.items (ended e.number q)

  over_turn : (then : MayFillThen p (ended e.number q) over) → ShowsTurn number none_leaves x.sides.peers then.turn over
  over_turn then =
      let all : ShowsAround number p (sides_with (ended e.number q) x) over = around_after number p x t over (ended e.number q) shows over_steps (refusable.bounded y here) (ended_can e.number q can) (frame_of over_stays) in
      record {
        steps =
            subst (λ (name : Bytes). ShowsSteps number name none_leaves x.sides.peers (parts then.turn) over) (sym (ap (λ (v : Turn). v.name.items) then.rest))
            (subst (λ (r : Parts). ShowsSteps number p.name.items none_leaves x.sides.peers r over) (sym then.is) over_steps);
        name = ap (λ (v : Turn). v.name.items) then.rest ∙ all.turn.name;
        shares = ap (λ (v : Turn). v.shares_fetches) then.rest ∙ all.turn.shares;
        clock = ap (λ (v : Turn). v.now) then.rest ∙ all.turn.clock;
        ticked = ap (λ (v : Turn). v.is_ticked) then.rest ∙ all.turn.ticked;
        stopped = ap (λ (v : Turn). v.is_stopped) then.rest ∙ all.turn.stopped;
        bounded = subst (λ (r : Parts). IsBounded r.cache) (sym then.is) all.turn.bounded;
      }

  asked_is : (then : MayFillThen p (ended e.number q) over) → parts then.behind ≡ asked
  asked_is then =
      then.filled.is
      ∙ ap (λ (v : Turn). filled v.is_stopped v.name.items v.awake.items (parts then.turn)) then.rest
      ∙ ap (λ (r : Parts). filled p.is_stopped p.name.items p.awake.items r) then.is

  filled_turn : may_ask_again u e.number ≡ false → ShowsSteps number p.name.items none_leaves x.sides.peers asked (fill over) × IsBounded asked.cache
  filled_turn none =
      let then : MayFillThen p (ended e.number q) over = refusable.then y here none in
      let all : IsFilledAs number none_leaves x.sides.peers then.behind (fill over) = fills_all number none_leaves x.sides.peers then.turn then.behind over (over_turn then) then.awake then.fill then.room then.filled in (
        subst (λ (r : Parts). ShowsSteps number p.name.items none_leaves x.sides.peers r (fill over)) (asked_is then)
            (subst (λ (name : Bytes). ShowsSteps number name none_leaves x.sides.peers (parts then.behind) (fill over)) (ap (λ (v : Turn). v.name.items) then.filled.rest ∙ ap (λ (v : Turn). v.name.items) then.rest) all.turn.steps),
        subst (λ (r : Parts). IsBounded r.cache) (asked_is then) all.turn.bounded,
      )

  may_filled : MayPlace (fill over)
  may_filled = fill_may over may_over (frame_of {all = false} (fill-stays over (stays refl)))

  -- ---- in all

  abbrev again_if : Bool → Parts
  again_if b = asked_again_where b p.is_stopped p.name.items p.awake.items e.number q

  abbrev law_again_if : Bool → State
  law_again_if b = elim b as (λ v. State) [ true ↦ u | false ↦ fill over ]

  shown : (b : Bool) → may_ask_again u e.number ≡ b → ShowsAround number p (sides_with (again_if b) x) (law_again_if b) × MayPlace (law_again_if b)
  shown true is = (around_after number p x t u q shows lost (refusable.bounded y here) can (frame_of lost_stays), may_lost)
  shown false is =
      let turn : ShowsSteps number p.name.items none_leaves x.sides.peers asked (fill over) × IsBounded asked.cache = filled_turn is in (
        around_after number p x t (fill over) asked shows turn.0 turn.1 (filled_can p.is_stopped p.name.items p.awake.items (ended e.number q) (ended_can e.number q can)) (frame_of (fill-stays over over_stays)),
        may_filled,
      )

  same_law : refused_dial e u ≡ law_again_if (may_ask_again u e.number)
  unfolding refused_dial
  same_law = refl

  same_number : y.exchange.number ≡ e.number → refused_in_turn p.is_stopped p.name.items p.awake.items y.exchange x.sides.parts ≡ again_if (may_ask_again u e.number)
  same_number is =
      ap (λ (n : ℕ). asked_again_where (may_ask_again_in n q) p.is_stopped p.name.items p.awake.items n q) is ∙ ap (λ (b : Bool). again_if b) same_again

  pub refused : y.exchange.number ≡ e.number → ShowsAround number p (sides_with (refused_in_turn p.is_stopped p.name.items p.awake.items y.exchange x.sides.parts) x) (refused_dial e u) × MayPlace (refused_dial e u)
  refused is =
      subst (λ (v : State). ShowsAround number p (sides_with (refused_in_turn p.is_stopped p.name.items p.awake.items y.exchange x.sides.parts) x) v × MayPlace v) (sym same_law)
      (subst (λ (r : Parts). ShowsAround number p (sides_with r x) (law_again_if (may_ask_again u e.number)) × MayPlace (law_again_if (may_ask_again u e.number))) (sym (same_number is)) (shown (may_ask_again u e.number) refl))

-- ---- it may be refused

permitted : (s : State) (e : Exchange) → MayPlace s → (placing s).pause ≡ WaitsDial e → may_fail s false ≡ true → IsPermitted s (Undialled e.key.host e.key.port)
unfolding is_permitted permits
permitted s e may waits fails =
    ap (λ (o : Option ℕ). elim o as (λ t. Bool) [ Some who ↦ permits_behind_forgotten s (Undialled e.key.host e.key.port) | None ↦ may_fail s false && permits_dial s e.key.host e.key.port ]) may.connecting.none
    ∙ ap₂ (λ (b c : Bool). b && c) fails (may_call s e may waits)

goes : (s : State) (e : Exchange) → MayPlace s → (placing s).pause ≡ WaitsDial e → after s (Undialled e.key.host e.key.port) ≡ refused_dial e (lost_in e (placing s).state)
unfolding changed undialled
goes s e may waits =
    ap (λ (t : State). undialled (placing t)) (stays_there s may.connecting)
    ∙ ap (λ (q : Pause). elim q as (λ t. State) [ AllPlaced ↦ (placing s).state | WaitsDrop k d ↦ (placing s).state | WaitsDial d ↦ refused_dial d (lost_in d (placing s).state) ]) waits

-- what the program has then
as_refused : (number : ℕ → ℕ) (p : Turn) (x y : Around) (e : Exchange) (log : Log) (fault : WireFault) → (c : IsCalledFor number p x e log y) → c.dials.answer ≡ Err fault
    → y ≡ sides_with (refused_in_turn p.is_stopped p.name.items p.awake.items c.entry.exchange x.sides.parts) x
as_refused number p x y e log fault c is =
    ap (λ (z : Sides). record y { sides = z }) (c.dials.sides ∙ ap (λ (a : Result ℕ WireFault). met_at (moment_of p) e.number c.entry e.key.host (new_one a x.sides.peers) x.sides) is)
    ∙ ap₂ (λ (ls : List Link) (m : ℕ). let z : Around = record { sides = with_parts (refused_in_turn p.is_stopped p.name.items p.awake.items c.entry.exchange) x.sides; links = ls; top = m } in z)
    (c.dials.links ∙ ap (λ (a : Result ℕ WireFault). links_with a x.links) is) (c.dials.top ∙ ap (λ (a : Result ℕ WireFault). result_unwrap_or a x.top) is)

pub answers : AnswersAreTheLaws
answers number p x s shows may e log y un waits refusable dial = by (called_for number p x y s e log shows may un waits dial)
  where
    none : (c : IsCalledFor number p x e log y) (fault : WireFault) → c.dials.answer ≡ Err fault → IsLed number p log y s
    none c fault is =
        let both : ShowsAround number p (sides_with (refused_in_turn p.is_stopped p.name.items p.awake.items c.entry.exchange x.sides.parts) x) (refused_dial e (lost_in e (placing s).state)) × MayPlace (refused_dial e (lost_in e (placing s).state)) =
        refused number p x (placing s).state e c.entry shows (placing_may s may) un c.known refusable c.shows.number in
        let log_is : log ≡ Undialled e.key.host e.key.port ∷ [] =
        log_called number p x y (placing s).state e log shows c ∙ ap₂ (λ (a : Result ℕ WireFault) (port : ℕ). dial_happening e.key.host port a ∷ []) is c.port in
        record {
          state = refused_dial e (lost_in e (placing s).state);
          leads =
              subst (λ (hs : Log). Leads hs s (refused_dial e (lost_in e (placing s).state))) (sym log_is)
              (record { awake = refl; may = λ failed. permitted s e may waits (failed refl); holds = goes s e may waits });
          shows = subst (λ (z : Around). ShowsAround number p z (refused_dial e (lost_in e (placing s).state))) (sym (as_refused number p x y e log fault c is)) both.0;
          may = both.1;
        }

    at : (c : IsCalledFor number p x e log y) (answer : Result ℕ WireFault) → c.dials.answer ≡ answer → IsLed number p log y s
    at c (Err fault) is = none c fault is
    at c (Ok n) is = meets number p x y s e log n shows may un waits c is

    by : IsCalledFor number p x e log y → IsLed number p log y s
    by c = at c c.dials.answer refl
