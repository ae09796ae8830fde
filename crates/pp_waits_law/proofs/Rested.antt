-- Behind a wait the turn shows what the law's wait leaves.
use Rattle.std.proofs.Common.{◌≡◌, refl, sym, subst, ap, ap₂, ◌∙◌, ℕ, zero, suc, Bool, true, false, not, ◌||◌, ◌==◌, take, drop, map, length, List, [], ◌∷◌, Some}
use Rattle.std.specs.List.{list_any}
use Rattle.std.specs.Prelude.{slice_get}
use Rattle.pp_cache.specs.Bounds.{IsBounded}
use Rattle.pp_cache.specs.Memory.{Memory}
use Rattle.pp_cache_law.proofs.Numbers.{some_is}
use Rattle.pp_desk.specs.Closings.{peer_numbers}
use Rattle.pp_desk.specs.declared.desk.Desk.{Desk}
use Rattle.pp_endings_law.proofs.Instances.{instances_rest}
use Rattle.pp_endings_law.proofs.Rested.{behind_clients, exchanges_rest}
use Rattle.pp_endings_law.specs.Waits.{with_wanted}
use Rattle.pp_flow.specs.Changes.{Exchanges}
use Rattle.pp_flow_law.specs.Tables.{AreGiven, none_leaves}
use Rattle.pp_law.specs.Lists.{Bytes, has_number}
use Rattle.pp_law.specs.Phases.{has_closings}
use Rattle.pp_law.specs.State.{State, Client, Conn}
use Rattle.pp_law.specs.Turn.{is_waited_for as waited_by_law, rest_with, rested_client, rested_conn, rested_instance}
use Rattle.pp_law.specs.Unseen.{rested_exchange}
use Rattle.pp_peers.specs.declared.peers.Peer.{Peer}
use Rattle.pp_peers_law.specs.Peers.{ShowsConn}
use Rattle.pp_proxy.specs.Awaiting.{Rests}
use Rattle.pp_seats.specs.Seats.{is_silent}
use Rattle.pp_seats.specs.declared.seat.Seat.{Seat}
use Rattle.pp_state.specs.Ends.{Parts, numbers_of, parts}
use Rattle.pp_state.specs.Unseen.{all_rested as all_wanted}
use Rattle.pp_state.specs.declared.state.State.{State as Turn}
use Rattle.pp_states_law.proofs.Framed.{states}
use Rattle.pp_states_law.proofs.Waited.{restings}
use Rattle.pp_states_law.specs.States.{ShowsState}
use Rattle.pp_states_law.specs.Waiting.{rested_peer as rested_as}
use Rattle.pp_states_law.specs.Steps.{ShowsSteps, whole}
use Rattle.pp_states_law.specs.Told.{AreTold}
use Rattle.pp_turns_law.proofs.First.{IsShownAt, seat_shown}
use Rattle.pp_turns_law.proofs.Rested.{rests_all}
use Rattle.pp_turns_law.specs.Marks.{AreLoud, all_rested, with_rested}
use Rattle.pp_turns_law.specs.Rows.{AreReady, IsReady}
use Rattle.pp_turns_law.specs.Turns.{ShowsTurn}
use Rattle.pp_turns_law.specs.Wants.{ShowsEnd}
use Rattle.pp_waits_law.proofs.Left.{parts_of}
use Rattle.pp_waits_law.proofs.Like.{Was, all_numbers, all_were, count_same, waiting_is}
use Rattle.pp_waits_law.specs.Rests.{HasRested, RestsAreTheLaws, StandBehind, StandsLoud}
use Rattle.pp_wants.specs.Rests.{is_waited_for, rested_peer}
use Rattle.pp_world.specs.declared.event.Wants.{Wants}

-- ---- who is waited for

behind_front : (n count : ℕ) (ns : List ℕ) → has_number n (take count ns) ≡ false → has_number n (drop count ns) ≡ has_number n ns
behind_front n zero ns out = refl
behind_front n (suc count) [] out = refl
behind_front n (suc count) (m ∷ ns) out = by (m == n) out (λ rest. behind_front n count ns rest)
  where
    by : (b : Bool) → (b || has_number n (take count ns)) ≡ false → (has_number n (take count ns) ≡ false → has_number n (drop count ns) ≡ has_number n ns) → has_number n (drop count ns) ≡ (b || has_number n ns)
    by true out rest = absurd (cc out)
    by false out rest = rest out

waited_same : (s : State) (clients : ℕ) (w : Wants) (peer : Peer) (k : Conn) → has_number peer.number (take clients w.read.items) ≡ false → ShowsConn s peer k → is_waited_for clients w peer ≡ waited_by_law w k
waited_same s clients w peer k out shown =
    ap₂ (λ (a b : Bool). not a || b || has_number peer.number w.write.items) shown.is_reached (behind_front peer.number clients w.read.items out)
    ∙ ap (λ (n : ℕ). not k.is_reached || has_number n w.read.items || has_number n w.write.items) shown.number

-- ---- nobody is closing

map_same : {A B : Type 0} (f g : A → B) (xs : List A) → ((x : A) → f x ≡ g x) → map f xs ≡ map g xs
map_same f g [] same = refl
map_same f g (x ∷ xs) same = ap₂ (λ y ys. y ∷ ys) (same x) (map_same f g xs same)

any_same : {A : Type 0} (p : A → Bool) (f : A → A) (xs : List A) → ((x : A) → p (f x) ≡ p x) → list_any p (map f xs) ≡ list_any p xs
any_same p f [] same = refl
any_same p f (x ∷ xs) same = ap₂ (λ (a b : Bool). a || b) (same x) (any_same p f xs same)

pub first_none : (a b : Bool) → (a || b) ≡ false → (a ≡ false) × (b ≡ false)
first_none true b none = absurd (cc none)
first_none false b none = (refl, none)

pub none_at : {A : Type 0} (p : A → Bool) (xs : List A) (i : ℕ) (x : A) → list_any p xs ≡ false → slice_get xs i ≡ Some x → p x ≡ false
none_at p [] i x none at = absurd (cc at)
none_at p (y ∷ ys) zero x none at = ap p (sym (some_is y x at)) ∙ (first_none (p y) (list_any p ys) none).0
none_at p (y ∷ ys) (suc i) x none at = none_at p ys i x (first_none (p y) (list_any p ys) none).1 at

closings_same : (w : Wants) (s : State) → has_closings (rest_with w s) ≡ has_closings s
unfolding rest_with
closings_same w s =
    ap₂ (λ (a b : Bool). a || b) (any_same (λ (c : Client). c.is_closing) (rested_client s) s.clients (λ c. refl)) (any_same (λ (k : Conn). k.is_closing) (rested_conn s w) s.conns (λ k. refl))

-- ---- all of it

module _ (number : ℕ → ℕ) (w : Wants) (clients : ℕ) (e f : Desk) (s : State) (stands : StandsLoud number e s) (behind : StandBehind e.peers w clients) (rests : Rests w clients e f) where
  abbrev p : Turn
  p = e.state

  -- the clients alone rested
  abbrev a : Turn
  a = record e.state { seats = f.state.seats }

  seats_are : f.state.seats.items ≡ all_rested p p.awake.items p.seats.items
  seats_are = rests.seats ∙ waiting_is p

  at_a : ShowsTurn number none_leaves e.peers a (with_rested s)
  at_a = rests_all number none_leaves e.peers p a s stands.turn stands.loud stands.ready (record { are = seats_are; rest = refl })

  was : (j : ℕ) (new : Seat) → slice_get f.state.seats.items j ≡ Some new → Was p.seats.items j new
  was j new at = all_were p p.awake.items p.seats.items j new (ap (λ (xs : List Seat). slice_get xs j) (sym seats_are) ∙ at)

  same_numbers : numbers_of f.state.seats.items ≡ numbers_of p.seats.items
  same_numbers = ap (λ (xs : List Seat). numbers_of xs) seats_are ∙ all_numbers p p.awake.items p.seats.items

  ready_a : AreReady number p.cache s.next_instance f.state.seats.items
  ready_a j new at going =
      let one : Was p.seats.items j new = was j new at in
      let old : IsReady number p.cache s.next_instance one.old = stands.ready j one.old one.here (ap (λ (x : Seat). x.is_closing) (sym one.is) ∙ going) in
      subst (λ (x : Seat). IsReady number p.cache s.next_instance x) (sym one.is) (record { follows = old.follows; key = old.key; joined = old.joined })

  silent : (j : ℕ) (new : Seat) → slice_get f.state.seats.items j ≡ Some new → has_number j p.awake.items ≡ false → is_silent new ≡ true
  silent j new at out =
      let one : Was p.seats.items j new = was j new at in
      ap (λ (x : Seat). is_silent x) one.is ∙ stands.loud.others j one.old one.here out

  loud_a : AreLoud a
  loud_a = record {
    order = subst (λ (n : ℕ). AreGiven 0 n p.awake.items) (sym (count_same f.state.seats.items p.seats.items same_numbers)) stands.loud.order;
    others = silent;
  }

  going_a : (i : ℕ) (c : Client) → slice_get (with_rested s).clients i ≡ Some c → c.is_closing ≡ false
  going_a i c at =
      none_at (λ (x : Client). x.is_closing) (map (rested_client s) s.clients) i c
      (any_same (λ (x : Client). x.is_closing) (rested_client s) s.clients (λ x. refl) ∙ (first_none (list_any (λ (x : Client). x.is_closing) s.clients) (list_any (λ (k : Conn). k.is_closing) s.conns) stands.closed).0) at

  goes : (i : ℕ) (seat : Seat) → slice_get f.state.seats.items i ≡ Some seat → seat.is_closing ≡ false
  goes i seat at =
      let one : IsShownAt number p.name.items f.state.seats.items (with_rested s).clients i = seat_shown number p.name.items f.state.seats.items (with_rested s).clients i seat at_a.steps.shows.clients at in
      ap (λ (x : Seat). x.is_closing) (some_is seat one.seat (sym at ∙ one.here)) ∙ one.shows.closing ∙ going_a i one.client one.there

  end_a : ShowsEnd number none_leaves e.peers a (with_rested s)
  end_a = record {
    turn = at_a;
    going = going_a;
    follows = λ i seat at.
        (ready_a i seat at (goes i seat at)).follows;
  }

  -- the exchanges, the connections and the instances

  abbrev wanted : Exchanges
  wanted = all_wanted p.awake.items f.state.seats.items p.flow

  abbrev rested_parts : Parts
  rested_parts = record (parts a) { flow = wanted }

  steps_a : ShowsSteps number p.name.items none_leaves e.peers rested_parts (with_wanted (with_rested s))
  steps_a = exchanges_rest number e.peers a (with_rested s) end_a loud_a

  abbrev waited : Peer → Bool
  waited = is_waited_for clients w

  abbrev s1 : State
  s1 = with_wanted (with_rested s)

  abbrev s2 : State
  s2 = record s1 { conns = map (rested_conn s1 w) s1.conns }

  abbrev s3 : State
  s3 = record s2 { instances = map rested_instance s2.instances }

  abbrev peers_a : List Peer
  peers_a = map (rested_as waited s.clock) e.peers

  shows_conns : ShowsState number p.name.items [] none_leaves (whole rested_parts peers_a) s2
  shows_conns = restings number p.name.items [] none_leaves (whole rested_parts e.peers) s1 steps_a.shows w waited (λ i peer k here there shown. waited_same s1 clients w peer k (behind i peer here) shown)

  shows_all : ShowsState number p.name.items [] none_leaves (whole rested_parts peers_a) s3
  shows_all = instances_rest number p.name.items [] none_leaves (whole rested_parts peers_a) s2 shows_conns

  shows_rest : ShowsState number p.name.items [] none_leaves (whole rested_parts peers_a) (rest_with w s)
  unfolding rest_with
  shows_rest = states number p.name.items [] none_leaves (whole rested_parts peers_a) s3 shows_all (rest_with w s) (record {
    clients = refl;
    conns = refl;
    exchanges = map_same (rested_exchange s) (rested_exchange (with_rested s)) s.exchanges (λ x. sym (behind_clients s x));
    next_exchange = refl;
    instances = refl;
    next_instance = refl;
    chunks = refl;
    kept = λ x. refl;
  })

  next_is : (rest_with w s).next_instance ≡ s.next_instance
  unfolding rest_with
  next_is = refl

  steps_rest : ShowsSteps number p.name.items none_leaves peers_a rested_parts (rest_with w s)
  steps_rest = record {
    shows = shows_rest;
    order = steps_a.order;
    told = subst (λ (n : ℕ). AreTold number p.cache n wanted) (sym next_is) steps_a.told;
    refused = steps_a.refused;
  }

  -- the rest of the turn

  of_turn : {A : Type 0} (g : Turn → A) → g (record f.state { seats = e.state.seats; flow = e.state.flow }) ≡ g (record e.state { is_ticked = false; is_evicting = false })
  of_turn g = ap (λ (x : Desk). g x.state) rests.rest

  same_cache : f.state.cache ≡ p.cache
  same_cache = of_turn (λ (t : Turn). t.cache)

  same_name : f.state.name.items ≡ p.name.items
  same_name = of_turn (λ (t : Turn). t.name.items)

  same_awake : f.state.awake.items ≡ p.awake.items
  same_awake = of_turn (λ (t : Turn). t.awake.items)

  same_parts : parts f.state ≡ rested_parts
  same_parts =
      parts_of (parts f.state) f.state.seats.items wanted p.cache p.refused p.is_astray refl
      (rests.flow ∙ ap (λ (xs : List Seat). all_wanted p.awake.items xs p.flow) (sym rests.seats)) same_cache (of_turn (λ (t : Turn). t.refused)) (of_turn (λ (t : Turn). t.is_astray))

  peers_are : f.peers ≡ peers_a
  peers_are = rests.peers ∙ ap (λ (now : ℕ). map (rested_peer clients w now) e.peers) stands.turn.clock

  turn_rest : ShowsTurn number none_leaves f.peers f.state (rest_with w s)
  unfolding rest_with
  turn_rest = record {
    steps =
        subst (λ (name : Bytes). ShowsSteps number name none_leaves f.peers (parts f.state) (rest_with w s)) (sym same_name)
        (subst (λ (ps : List Peer). ShowsSteps number p.name.items none_leaves ps (parts f.state) (rest_with w s)) (sym peers_are)
        (subst (λ (r : Parts). ShowsSteps number p.name.items none_leaves peers_a r (rest_with w s)) (sym same_parts) steps_rest));
    name = same_name ∙ stands.turn.name;
    shares = of_turn (λ (t : Turn). t.shares_fetches) ∙ stands.turn.shares;
    clock = of_turn (λ (t : Turn). t.now) ∙ stands.turn.clock;
    ticked = of_turn (λ (t : Turn). t.is_ticked);
    stopped = of_turn (λ (t : Turn). t.is_stopped) ∙ stands.turn.stopped;
    bounded = subst (λ (m : Memory). IsBounded m) (sym same_cache) stands.turn.bounded;
  }

  numbers_kept : (ps : List Peer) → peer_numbers (map (rested_peer clients w p.now) ps) ≡ peer_numbers ps
  numbers_kept [] = refl
  numbers_kept (x ∷ xs) = ap (λ (ns : List ℕ). x.number ∷ ns) (numbers_kept xs)

  still : f.state.is_ticked ≡ false
  still = of_turn (λ (t : Turn). t.is_ticked)

  has_rested : HasRested number e f s (rest_with w s)
  unfolding rest_with
  has_rested = record {
    turn = turn_rest;
    ready = subst (λ (m : Memory). AreReady number m s.next_instance f.state.seats.items) (sym same_cache) ready_a;
    awake = record {
      order = subst (λ (ns : List ℕ). AreGiven 0 (length f.state.seats.items) ns) (sym same_awake) loud_a.order;
      others = λ i seat at out. record { silent = silent i seat at (ap (λ (ns : List ℕ). has_number i ns) (sym same_awake) ∙ out); ticked = still };
    };
    closed = closings_same w s ∙ stands.closed;
    still = still;
    ticked = of_turn (λ (t : Turn). t.has_ticked);
    clients = same_numbers;
    origins = ap (λ (ps : List Peer). peer_numbers ps) rests.peers ∙ numbers_kept e.peers;
    at = refl;
    owes = refl;
    none = refl;
    has_ticked = refl;
    top = refl;
  }

pub rests_as_law : RestsAreTheLaws
rests_as_law number w clients e f s stands behind rests = has_rested number w clients e f s stands behind rests
