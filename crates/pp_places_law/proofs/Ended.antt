-- Where each exchange has its place, or none to go to, the law goes on to the next phase, which shows no other.
use Rattle.std.proofs.Common.{◌≡◌, refl, sym, subst, ap, ap₂, ◌∙◌, ℕ, Bool, true, not, ◌&&◌, map, List, [], ◌∷◌, Option, Some, None}
use Rattle.std.specs.Prelude.{option_and_then}
use Rattle.pp_flow_law.specs.Tables.{none_leaves}
use Rattle.pp_law.specs.Connections.{exchange, if_unplaced, on_conn, on_exchange, place_each, place_for, placing, put_on}
use Rattle.pp_law.specs.Phases.{behind, in_phase, is_done, is_done_with, is_placed, next}
use Rattle.pp_law.specs.State.{State, DecidingAgain, Exchange, Phase}
use Rattle.pp_peers.specs.declared.placing.Placed.{Placed}
use Rattle.pp_peers.specs.declared.placing.Placed.TheVariants.{On, Dial, CloseThenDial, Wait}
use Rattle.pp_places.specs.Around.{Around}
use Rattle.pp_state.specs.declared.state.State.{State as Turn}
use Rattle.pp_states_law.proofs.Framed.{states}
use Rattle.pp_states_law.specs.Steps.{whole}
use Rattle.pp_places_law.proofs.Walks.{by_one, by_place}
use Rattle.pp_places_law.specs.Around.{MayPlace, ShowsAround}

-- ---- places do not depend on the phase

put_in : (n k : ℕ) (phase : Phase) (s : State) → put_on n k (in_phase phase s) ≡ in_phase phase (put_on n k s)
unfolding put_on on_conn on_exchange
put_in n k phase s = refl

each_in : (ns : List ℕ) (phase : Phase) (s : State) → (place_each ns (in_phase phase s)).state ≡ in_phase phase (place_each ns s).state
each_in [] phase s = refl
each_in (n ∷ ns) phase s = by (option_and_then if_unplaced (exchange s n)) (λ t. each_in ns phase t)
  where
    at : (e : Exchange) (w : Placed) → ((t : State) → (place_each ns (in_phase phase t)).state ≡ in_phase phase (place_each ns t).state) → (by_place (in_phase phase s) ns n e w).state ≡ in_phase phase (by_place s ns n e w).state
    at e (On k) rest = ap (λ (t : State). (place_each ns t).state) (put_in n k phase s) ∙ rest (put_on n k s)
    at e Wait rest = rest s
    at e Dial rest = refl
    at e (CloseThenDial k) rest = refl

    by : (o : Option Exchange) → ((t : State) → (place_each ns (in_phase phase t)).state ≡ in_phase phase (place_each ns t).state) → (by_one (in_phase phase s) ns n o).state ≡ in_phase phase (by_one s ns n o).state
    by None rest = rest s
    by (Some e) rest = at e (place_for s e) rest

around_in : (number : ℕ → ℕ) (p : Turn) (y : Around) (phase : Phase) (t : State) → ShowsAround number p y t → ShowsAround number p y (in_phase phase t)
around_in number p y phase t shows = record {
  turn = record {
    steps = record {
      shows =
          states number p.name.items [] none_leaves (whole y.sides.parts y.sides.peers) t shows.turn.steps.shows (in_phase phase t)
          (record { clients = refl; conns = refl; exchanges = refl; next_exchange = refl; instances = refl; next_instance = refl; chunks = refl; kept = λ x. refl });
      order = shows.turn.steps.order;
      told = shows.turn.steps.told;
      refused = shows.turn.steps.refused;
    };
    name = shows.turn.name;
    shares = shows.turn.shares;
    clock = shows.turn.clock;
    ticked = shows.turn.ticked;
    stopped = shows.turn.stopped;
    bounded = shows.turn.bounded;
  };
  limits = shows.limits;
  waiting = shows.waiting;
  placed = shows.placed;
  linked = shows.linked;
  given = shows.given;
  few = shows.few;
  top = shows.top;
}

-- ---- it is done

pub done_is : (s : State) → MayPlace s → is_placed (placing s).pause ≡ true → is_done s ≡ true
done_is s may placed = ap (λ (phase : Phase). is_done_with phase s) may.connecting.at ∙ ap₂ (λ (b c : Bool). not b && c) may.closed placed

pub next_shows : (number : ℕ → ℕ) (p : Turn) (y : Around) (s : State) → MayPlace s → ShowsAround number p y (placing s).state → ShowsAround number p y (next s)
unfolding next
next_shows number p y s may shows =
    subst (λ (t : State). ShowsAround number p y t)
    (sym (ap (λ (phase : Phase). behind phase s) may.connecting.at ∙ each_in (map (λ (e : Exchange). e.number) s.exchanges) DecidingAgain s))
    (around_in number p y DecidingAgain (placing s).state shows)
