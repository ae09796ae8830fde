-- Behind an event all that leaves memory leaves it as by the law, and the turn stands where the disk is next.
use Rattle.std.proofs.Common.{◌≡◌, refl, sym, subst, ap, ◌∙◌, ℕ, ◌<◌, ◌≤◌, Bool, true, false, length, List, [], ◌∷◌, Some, None}
use Rattle.std.specs.List.{list_any}
use Rattle.std.specs.Prelude.{count_by, is_some, slice_get}
use Rattle.pp_cache.specs.Bounds.{IsBounded}
use Rattle.pp_cache.specs.Memory.{Memory}
use Rattle.pp_turns_law.proofs.GivenUp.{gives_up, waiting_in_order}
use Rattle.pp_turns_law.proofs.Sitting.{is_at, shown_at}
use Rattle.pp_turns_law.specs.Decides.{IsAtPlace}
use Rattle.pp_desk.specs.Closings.{Sides, sides, with_parts}
use Rattle.pp_desk.specs.declared.desk.Desk.{Desk}
use Rattle.pp_flow.specs.Changes.{entry_of, numbers as flow_numbers}
use Rattle.pp_flow_law.specs.Tables.{AreGiven, none_leaves}
use Rattle.pp_law.specs.After.{after as then}
use Rattle.pp_law.specs.Closing.{is_over}
use Rattle.pp_law.specs.Connections.{is_conn}
use Rattle.pp_law.specs.Followers.{give_up_asks}
use Rattle.pp_law.specs.Lists.{has_number}
use Rattle.pp_law.specs.Phases.{behind, in_phase, is_done, is_done_with, is_free, next}
use Rattle.pp_law.specs.Replies.{regained}
use Rattle.pp_law.specs.Stages.{filled_of}
use Rattle.pp_law.specs.State.{State, Client, Conn, Exchange, Phase, Owed, Evicting, Keeping}
use Rattle.pp_laws.specs.Runs.{IsIn}
use Rattle.pp_leaves_law.proofs.Left.{calm}
use Rattle.pp_leaves_law.specs.Leaves.{HaveLeft, left_by}
use Rattle.pp_objects.specs.Changes.{faces}
use Rattle.pp_obeys.specs.Moves.{AreCalm, Leads, Leaves as GoesOn, MovesAll}
use Rattle.pp_peers.specs.declared.peers.Peer.{Peer}
use Rattle.pp_proxy.specs.Leaving.{Leaves}
use Rattle.pp_proxy.specs.Moving.{Moving}
use Rattle.pp_seats.specs.declared.seat.Seat.{Seat}
use Rattle.pp_seats_law.specs.Seats.{ShowsSeat}
use Rattle.pp_state.specs.Ends.{Parts, ended, numbers_of, parts}
use Rattle.pp_state.specs.Asking.{is_useless}
use Rattle.pp_state.specs.declared.state.State.{State as Turn}
use Rattle.pp_states_law.specs.Decisions.{AreApart}
use Rattle.pp_steps.proofs.EvictingLemmas.{still_there}
use Rattle.pp_steps.specs.Evicting.{leaving_notes, left_memory}
use Rattle.pp_states_law.specs.Steps.{ShowsSteps}
use Rattle.pp_states_law.specs.Told.{IsTold}
use Rattle.pp_take.specs.GivingUp.{all_given_up}
use Rattle.pp_turns_law.specs.Firsts.{AreAwake, IsAsleep}
use Rattle.pp_turns_law.specs.Rows.{AreReady, IsReady}
use Rattle.pp_turns_law.specs.Turns.{IsFollowing, ShowsTurn}
use Rattle.pp_world.specs.Log.{Log}
use Rattle.pp_evicting_law.proofs.Anew.{as_many}
use Rattle.pp_evicting_law.proofs.Going.{behind_is, is_else, left_is, none_over}
use Rattle.pp_evicting_law.proofs.Leaving.{anew_cache as anew_cache_of, asleep_anew as asleep_of, follow_anew as follow_of, led as led_of, left_rest as left_rest_of, notes_are as notes_of, ready_anew as ready_of, steps_in}
use Rattle.pp_evicting_law.specs.Evicting.{HasLeft, IsDoneWithEvent, KeepsElse, LeavingIsTheLaws, MayLeave, StandsBehind, left_behind}

-- what holds where they lead
moves_on : (Q : State → Type 0) (hs : Log) (s t : State) → Leads hs s t → Q t → MovesAll Q hs s
moves_on Q [] s t is holds = subst Q (sym is) holds
moves_on Q (h ∷ hs) s t moves holds = record { awake = moves.awake; may = moves.may; holds = moves_on Q hs (then s h) t moves.holds holds }

-- asks that are given up leave clients and memory
record Stays (p q : Parts) : Type 0 where
  seats : q.seats ≡ p.seats
  cache : q.cache ≡ p.cache

given_stays : (ns : List ℕ) (p : Parts) → Stays p (all_given_up ns p)
unfolding all_given_up
given_stays [] p = record { seats = refl; cache = refl }
given_stays (n ∷ ns) p = by (is_useless p.cache p.seats (entry_of n p.flow)) (given_stays ns (ended n p)) (given_stays ns p)
  where
    by : (b : Bool) → Stays (ended n p) (all_given_up ns (ended n p)) → Stays p (all_given_up ns p) → Stays p (all_given_up ns (elim b as (λ t. Parts) [ true ↦ ended n p | false ↦ p ]))
    by true one other = record { seats = one.seats; cache = one.cache }
    by false one other = other

module _ (number : ℕ → ℕ) (x y : Moving) (log : Log) (h : State) (done : IsDoneWithEvent number x h) (may : MayLeave x h) (leaves : Leaves x log y) (bounded : IsBounded y.desk.state.cache) where
  abbrev anew : Desk
  anew = leaves.anew

  abbrev left : Desk
  left = leaves.left

  abbrev name : List ℕ
  name = x.desk.state.name.items

  abbrev peers : List Peer
  peers = x.desk.peers

  abbrev u : State
  u = regained h

  abbrev e : State
  e = in_phase Evicting u

  abbrev v : State
  v = left_by e

  abbrev w : State
  w = in_phase Keeping v

  abbrev t : State
  t = left_behind u

  abbrev st : Turn
  st = record anew.state { is_evicting = u.is_evicting }

  abbrev after : Turn
  after = record left.state { is_evicting = u.is_evicting }

  -- as rows and chunks have left
  anew_cache : anew.state.cache ≡ x.desk.state.cache
  anew_cache = anew_cache_of number x y log h done may leaves

  ready_anew : AreReady number x.desk.state.cache h.next_instance anew.state.seats.items
  ready_anew = ready_of number x y log h done may leaves

  asleep_anew : (i : ℕ) (seat : Seat) → slice_get anew.state.seats.items i ≡ Some seat → has_number i x.desk.state.awake.items ≡ false → IsAsleep x.desk.state seat
  asleep_anew = asleep_of number x y log h done may leaves

  follow_anew : (i : ℕ) (seat : Seat) → slice_get anew.state.seats.items i ≡ Some seat → seat.is_closing ≡ false → IsFollowing x.desk.state.cache seat
  follow_anew = follow_of number x y log h done may leaves

  left_rest : record left.state { cache = (left_memory anew.state).cache } ≡ left_memory anew.state
  left_rest = left_rest_of number x y log h done may leaves

  led : Leads (leaving_notes st) e v × HaveLeft number name none_leaves peers after v
  led = led_of number x y log h done may leaves

  -- ---- of the law

  handled_done : is_done u ≡ true
  unfolding regained
  handled_done = ap (λ (p : Phase). is_done_with p u) done.at ∙ ap (λ (o : Owed). is_free o) done.owes

  next_evicting : next u ≡ e
  unfolding next regained
  next_evicting = ap (λ (p : Phase). behind p u) done.at

  next_keeping : next v ≡ t
  unfolding next
  next_keeping = ap (λ (p : Phase). behind p v) led.1.at

  leads : GoesOn (MovesAll (GoesOn (λ a. a ≡ t)) log) u
  leads = record {
    done = handled_done;
    holds =
        subst (λ (a : State). MovesAll (GoesOn (λ b. b ≡ t)) log a) (sym next_evicting)
        (subst (λ (hs : Log). MovesAll (GoesOn (λ b. b ≡ t)) hs e) (notes_of number x y log h done may leaves) (moves_on (GoesOn (λ b. b ≡ t)) (leaving_notes st) e v led.0 (record { done = led.1.done; holds = next_keeping })));
  }

  law_else : record t { phase = u.phase; forgotten = u.forgotten; chunks = u.chunks; exchanges = u.exchanges } ≡ u
  law_else = is_else u

  -- ---- asks are given up

  left_seats : left.state.seats.items ≡ anew.state.seats.items
  left_seats = ap (λ (p : Turn). p.seats.items) left_rest

  left_peers : left.peers ≡ peers
  left_peers = ap (λ (d : Desk). d.peers) leaves.leaves.rest ∙ ap (λ (d : Desk). d.peers) leaves.regains.rest

  left_faces : faces left.state.cache.instances ≡ faces x.desk.state.cache.instances
  left_faces = leaves.leaves.is.cache.faces ∙ ap (λ (m : Memory). faces m.instances) anew_cache

  steps_w : ShowsSteps number name none_leaves peers (parts left.state) w
  steps_w = steps_in Keeping number name none_leaves peers (parts left.state) v led.1.shows

  abbrev given : Parts
  given = all_given_up (flow_numbers left.state.flow.waiting) (parts left.state)

  given_is : sides y.desk ≡ with_parts (all_given_up (flow_numbers left.state.flow.waiting)) (sides left)
  given_is = leaves.gives.is (waiting_in_order number name none_leaves peers (parts left.state) w steps_w)

  follow_left : (i : ℕ) (seat : Seat) → slice_get left.state.seats.items i ≡ Some seat → seat.is_closing ≡ false → IsFollowing left.state.cache seat
  follow_left i seat here going a id answer source =
      still_there id left.state.cache.instances x.desk.state.cache.instances left_faces (follow_anew i seat (ap (λ (ss : List Seat). slice_get ss i) (sym left_seats) ∙ here) going a id answer source)

  shown_seat : (i : ℕ) (seat : Seat) (c : Client) → IsAtPlace i (parts left.state) w seat c → ShowsSeat number name [] seat c
  shown_seat i seat c place = shown_at number name [] left.state.seats.items w.clients seat.client.id i seat c steps_w.shows.clients (is_at i left.state.seats.items seat steps_w.order place.here) place.here place.there

  apart_left : AreApart w
  unfolding regained
  apart_left n = subst (λ (ks : List Conn). count_by (is_conn n) ks ≤ 1) (sym (ap (λ (s : State). s.conns) (left_is e))) (done.apart n)

  steps_given : ShowsSteps number name none_leaves peers given t
  steps_given = gives_up number name none_leaves peers (parts left.state) w steps_w (λ i seat c place going. follow_left i seat place.here ((shown_seat i seat c place).closing ∙ going)) apart_left (λ j. refl)

  -- ---- the turn behind

  stays : Stays (parts left.state) given
  stays = given_stays (flow_numbers left.state.flow.waiting) (parts left.state)

  now_parts : parts y.desk.state ≡ given
  now_parts = ap (λ (z : Sides). z.parts) given_is

  now_peers : y.desk.peers ≡ peers
  now_peers = ap (λ (z : Sides). z.peers) given_is ∙ left_peers

  now_cache : y.desk.state.cache ≡ left.state.cache
  now_cache = ap (λ (p : Parts). p.cache) now_parts ∙ stays.cache

  now_seats : y.desk.state.seats.items ≡ anew.state.seats.items
  now_seats = ap (λ (p : Parts). p.seats) now_parts ∙ stays.seats ∙ left_seats

  abbrev kept : Turn → Turn
  kept p = record p { seats = x.desk.state.seats; flow = x.desk.state.flow; cache = x.desk.state.cache; refused = x.desk.state.refused; is_astray = x.desk.state.is_astray; forgotten = x.desk.state.forgotten }

  abbrev kept_in : Turn → Desk → Desk
  kept_in p d = record d { state = kept p; peers = peers }

  desk_is : record y.desk { state = kept y.desk.state } ≡ x.desk
  desk_is =
      ap (λ (ps : List Peer). record y.desk { state = kept y.desk.state; peers = ps }) now_peers
      ∙ ap (λ (d : Desk). kept_in d.state d) leaves.gives.rest
      ∙ ap (λ (d : Desk). kept_in left.state d) leaves.leaves.rest
      ∙ ap (λ (p : Turn). kept_in p anew) left_rest
      ∙ ap (λ (d : Desk). kept_in d.state d) leaves.regains.rest

  abbrev rest_of : Memory → Memory
  rest_of m = record m { chunks = x.desk.state.cache.chunks; instances = x.desk.state.cache.instances }

  left_cache : rest_of left.state.cache ≡ x.desk.state.cache
  left_cache = ap (λ (m : Memory). rest_of m) leaves.leaves.is.cache.rest ∙ ap (λ (m : Memory). rest_of m) anew_cache

  numbers : numbers_of y.desk.state.seats.items ≡ numbers_of x.desk.state.seats.items
  numbers = leaves.gives.numbers ∙ ap (λ (ss : List Seat). numbers_of ss) left_seats ∙ leaves.regains.numbers

  keeps : KeepsElse x y
  keeps = record {
    desk = desk_is;
    cache = ap (λ (m : Memory). rest_of m) now_cache ∙ left_cache;
    faces_are = ap (λ (m : Memory). faces m.instances) now_cache ∙ left_faces;
    numbers = numbers;
    links = leaves.links;
    top = leaves.top;
  }

  now_name : y.desk.state.name.items ≡ name
  now_name = ap (λ (d : Desk). d.state.name.items) desk_is

  turn_now : ShowsTurn number none_leaves y.desk.peers y.desk.state t
  unfolding regained
  turn_now = record {
    steps =
        subst (λ (n : List ℕ). ShowsSteps number n none_leaves y.desk.peers (parts y.desk.state) t) (sym now_name)
        (subst (λ (ps : List Peer). ShowsSteps number name none_leaves ps (parts y.desk.state) t) (sym now_peers) (subst (λ (p : Parts). ShowsSteps number name none_leaves peers p t) (sym now_parts) steps_given));
    name = now_name ∙ done.turn.name ∙ ap (λ (s : State). s.settings.name) (sym law_else);
    shares = ap (λ (d : Desk). d.state.shares_fetches) desk_is ∙ done.turn.shares ∙ ap (λ (s : State). s.settings.shares_fetches) (sym law_else);
    clock = ap (λ (d : Desk). d.state.now) desk_is ∙ done.turn.clock ∙ ap (λ (s : State). s.clock) (sym law_else);
    ticked = ap (λ (d : Desk). d.state.is_ticked) desk_is ∙ done.turn.ticked ∙ ap (λ (s : State). s.is_ticked) (sym law_else);
    stopped = ap (λ (d : Desk). d.state.is_stopped) desk_is ∙ done.turn.stopped ∙ ap (λ (s : State). s.is_stopped) (sym law_else);
    bounded = bounded;
  }

  ready_left : AreReady number left.state.cache h.next_instance y.desk.state.seats.items
  ready_left i seat at going =
      let here : slice_get anew.state.seats.items i ≡ Some seat = ap (λ (ss : List Seat). slice_get ss i) (sym now_seats) ∙ at in
      let one : IsReady number x.desk.state.cache h.next_instance seat = ready_anew i seat here going in
      record {
        follows = follow_left i seat (ap (λ (ss : List Seat). slice_get ss i) left_seats ∙ here) going;
        key = one.key;
        joined = λ id plain brought.
            let told : IsTold number x.desk.state.cache h.next_instance id = one.joined id plain brought in
            record {
              given = subst (λ (n : ℕ). id.life < n) (sym (ap (λ (m : Memory). m.lives) left_cache)) told.given;
              made = told.made;
              apart = λ other there. told.apart other (still_there other x.desk.state.cache.instances left.state.cache.instances (sym left_faces) there);
            };
      }

  ready_now : AreReady number y.desk.state.cache t.next_instance y.desk.state.seats.items
  unfolding regained
  ready_now =
      subst (λ (m : Memory). AreReady number m t.next_instance y.desk.state.seats.items) (sym now_cache)
      (subst (λ (n : ℕ). AreReady number left.state.cache n y.desk.state.seats.items) (ap (λ (s : State). s.next_instance) (sym law_else)) ready_left)

  now_awake : y.desk.state.awake.items ≡ x.desk.state.awake.items
  now_awake = ap (λ (d : Desk). d.state.awake.items) desk_is

  awake_now : AreAwake y.desk.state
  awake_now = record {
    order = subst (λ (n : ℕ). AreGiven 0 n y.desk.state.awake.items) (sym (as_many y.desk.state.seats.items x.desk.state.seats.items numbers)) (subst (λ (ns : List ℕ). AreGiven 0 (length x.desk.state.seats.items) ns) (sym now_awake) done.awake.order);
    others = λ i seat at off.
        let one : IsAsleep x.desk.state seat = asleep_anew i seat (ap (λ (ss : List Seat). slice_get ss i) (sym now_seats) ∙ at) (ap (λ (ns : List ℕ). has_number i ns) (sym now_awake) ∙ off) in
        record { silent = one.silent; ticked = ap (λ (d : Desk). d.state.is_ticked) desk_is ∙ one.ticked };
  }

  exchanges_are : w.exchanges ≡ h.exchanges
  unfolding regained
  exchanges_are = ap (λ (s : State). s.exchanges) (left_is e)

  none_nowhere : list_any is_over t.exchanges ≡ false
  unfolding give_up_asks
  none_nowhere = none_over w w.exchanges (subst (λ (es : List Exchange). (d : Exchange) → IsIn d es → d.asker ≡ None → d.place ≡ None → is_some (filled_of d) ≡ true) (sym exchanges_are) may.placeless)

  apart_now : AreApart t
  unfolding regained
  apart_now n = subst (λ (ks : List Conn). count_by (is_conn n) ks ≤ 1) (ap (λ (s : State). s.conns) (sym law_else)) (done.apart n)

  stands : StandsBehind number y t
  unfolding regained
  stands = record {
    at = ap (λ (s : State). s.phase) (behind_is u);
    owes = ap (λ (s : State). s.owed) law_else ∙ done.owes;
    none = ap (λ (s : State). s.made_room_for) law_else ∙ done.none;
    turn = turn_now;
    apart = apart_now;
    awake = awake_now;
    ready = ready_now;
    noted = ap (λ (d : Desk). d.state.forgotten) leaves.gives.rest ∙ ap (λ (p : Turn). p.forgotten) left_rest;
    forgotten = ap (λ (s : State). s.forgotten) (behind_is u);
    going = none_nowhere;
  }

  calm_log : AreCalm log
  calm_log = subst (λ (hs : Log). AreCalm hs) (sym leaves.log_is) (calm anew.state)

  pub has_left : HasLeft number x y log u t
  has_left = record { leads = leads; calm = calm_log; stands = stands; law = law_else; turn = keeps }

pub leaving : LeavingIsTheLaws
leaving number x y log h done may leaves bounded = has_left number x y log h done may leaves bounded
