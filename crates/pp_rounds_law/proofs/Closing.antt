-- Connections that are over are closed, as the law closes them, and the rest stands.
use Rattle.std.proofs.Common.{◌≡◌, ◌≤◌, ◌+◌, refl, sym, subst, ap, ◌∙◌, ℕ, Bool, true, false, cond, filter, find, length, List, [], ◌∷◌, ◌++◌, Option, Some, None, le_trans, arith}
use Rattle.std.specs.List.{All, list_any}
use Rattle.std.specs.Prelude.{count_by, slice_get, vec_capacity}
use Rattle.pp_cache.specs.Bounds.{IsBounded}
use Rattle.pp_cache.specs.Memory.{Memory}
use Rattle.pp_cache_law.proofs.Finds.{find_passes}
use Rattle.pp_cache_law.proofs.Numbers.{is_same}
use Rattle.pp_cache_law.proofs.PairLemmas.{count_first}
use Rattle.pp_turns_law.specs.Log.{AreLinked}
use Rattle.pp_turns_law.specs.Sides.{ShowsSides}
use Rattle.pp_conf.specs.Conf.{Settings}
use Rattle.pp_desk.specs.Closings.{peer_numbers}
use Rattle.pp_desk.specs.Shutting.{all_over, closed_as, closings, over_clients, over_peers, seats_left, stays, without_all}
use Rattle.pp_desk.specs.declared.desk.Desk.{Desk}
use Rattle.pp_flow.specs.Changes.{Exchanges}
use Rattle.pp_flow_law.specs.Tables.{none_leaves}
use Rattle.pp_law.specs.Closing.{is_of}
use Rattle.pp_law.specs.Connections.{client, is_client}
use Rattle.pp_law.specs.State.{State, Client, Term, Connecting}
use Rattle.pp_laws.proofs.Lists.{in_find}
use Rattle.pp_laws_turn.proofs.Laws.{sound_turns}
use Rattle.pp_laws_turn.specs.SoundTurn.{IsSoundTurn}
use Rattle.pp_links.specs.Links.{Link, is_link, without as without_link}
use Rattle.pp_obeys.specs.Failures.{fails}
use Rattle.pp_obeys.specs.Moves.{Leads}
use Rattle.pp_obeys.specs.Obeys.{Obeys}
use Rattle.pp_peers.specs.Peers.{goes_on}
use Rattle.pp_peers.specs.declared.peers.Peer.{Peer}
use Rattle.pp_places_law.proofs.Left.{links_left}
use Rattle.pp_places_law.proofs.Links.{counted}
use Rattle.pp_places_law.proofs.Shuts.{closes}
use Rattle.pp_places_law.specs.Around.{AreAskable}
use Rattle.pp_places_law.specs.Closings.{AreOpen, AreShut, MayShut, over_in, sides_of}
use Rattle.pp_proxy.specs.Closing.{ClosesOver}
use Rattle.pp_proxy.specs.Moving.{Moving}
use Rattle.pp_rounds_law.specs.Decisions.{Passes}
use Rattle.pp_seats.specs.declared.seat.Seat.{Seat}
use Rattle.pp_state.specs.Ends.{Parts, is_over_at, numbers_of, parts}
use Rattle.pp_state.specs.Numbers.{places}
use Rattle.pp_state.specs.declared.state.State.{State as Turn}
use Rattle.pp_states_law.specs.Steps.{ShowsSteps}
use Rattle.pp_store.specs.Kept.{KeptMap}
use Rattle.pp_turns_law.proofs.Looked.{all_awake}
use Rattle.pp_turns_law.proofs.Wanted.{same_length}
use Rattle.pp_turns_law.specs.Firsts.{AreAwake}
use Rattle.pp_turns_law.specs.Turns.{ShowsTurn}
use Rattle.pp_world.specs.Log.{Log}
use Rattle.pp_world.specs.declared.event.Side.{Side}
use Rattle.pp_world.specs.declared.event.Side.TheVariants.{Client as OfClient, Origin}
use Rattle.pp_world.specs.declared.happening.Happening.TheVariants.{Dropped, Shut}
use Rattle.pp_rounds_law.proofs.Carried.{Holds, WasAt, carries_itself, loosely, same_seat}
use Rattle.pp_rounds_law.proofs.Coming.{comes_by, none_fail, brief_before}
use Rattle.pp_rounds_law.proofs.Decided.{limits_by, top_of}
use Rattle.pp_rounds_law.proofs.Left.{few_left, given_left, over_linked}
use Rattle.pp_rounds_law.proofs.Over.{IsLeft, clients_open, fewer_seats, left_at, seated_left}
use Rattle.pp_rounds_law.proofs.Ready.{awake_on, ready_on, sourced}
use Rattle.pp_rounds_law.specs.Coming.{ComesTo, IsBrief}
use Rattle.pp_rounds_law.specs.Stands.{StandsAmid}
use Rattle.pp_rounds_law.specs.Steps.{ClosingsInARound, HasClosed}
use Rattle.pp_rounds_law.specs.Supplies.{RoundSupplies}

-- ---- none of it fails

side_counts : (id : ℕ) (side : Side) (hs : Log) → count_by fails hs ≡ 0 → count_by fails (closed_as (Some (id, side)) ++ hs) ≡ 0
side_counts id OfClient hs none = count_first fails (Shut id) hs ∙ omega (arith, none)
side_counts id Origin hs none = count_first fails (Dropped id) hs ∙ omega (arith, none)

link_counts : (o : Option Link) (hs : Log) → count_by fails hs ≡ 0 → count_by fails (closed_as o ++ hs) ≡ 0
link_counts None hs none = none
link_counts (Some link) hs none = side_counts link.0 link.1 hs none

closings_count : (ids : List ℕ) (links : List Link) → count_by fails (closings ids links) ≡ 0
closings_count [] links = refl
closings_count (id ∷ ids) links = link_counts (find (is_link id) links) (closings ids (without_link id links)) (closings_count ids (without_link id links))

-- ---- a client that is closing asks nothing

asks_nothing : (s : State) → IsSoundTurn s → (n : ℕ) (c : Client) → client s n ≡ Some c → c.is_closing ≡ true → find (is_of n) s.exchanges ≡ None
asks_nothing s sound n c there closing =
    subst (λ (m : ℕ). find (is_of m) s.exchanges ≡ None) (is_same c.number n (find_passes (is_client n) s.clients c there)) (sound.alone c (in_find (is_client n) c s.clients there).0 closing)

-- ---- all of it

module _ (terms : List Term) (most : ℕ) (before : Log) (number : ℕ → ℕ) (shelf : KeptMap) (I : Turn → State → Type 0) (x y : Moving) (log : Log) (s : State) (supplies : RoundSupplies terms most shelf I) (obeys : Obeys terms s before) (brief : IsBrief most (before ++ log)) (amid : StandsAmid number shelf x s) (holds : I x.desk.state s) (at : s.phase ≡ Connecting)
    (over : ClosesOver x log y) (well : y.desk.state.is_astray ≡ false) where
  abbrev p : Turn
  p = x.desk.state

  abbrev q : Turn
  q = y.desk.state

  abbrev peers : List Peer
  peers = x.desk.peers

  sound : IsSoundTurn s
  sound = sound_turns terms s before obeys

  going : p.is_stopped ≡ false
  going = amid.turn.stopped ∙ amid.going

  may : MayShut s
  may = record { connecting = record { at = at; none = amid.none }; alone = asks_nothing s sound }

  shows : ShowsSides number p.name.items (sides_of p peers) s
  shows = record { steps = amid.turn.steps; may = supplies.closes before number x s obeys (brief_before most before log brief) amid holds }

  clients : AreOpen (over_clients p) x.links
  clients = clients_open p x.links amid.seated

  is : AreShut number p peers (closings (over_in p peers) x.links) s
  is = closes number p peers s x.links shows amid.awake going may clients (over_linked peers x.links amid.linked)

  abbrev t : State
  t = is.state

  came : ComesTo terms before log s t
  came =
      subst (λ (hs : Log). ComesTo terms before hs s t) (sym over.log_is)
      (comes_by terms (closings (over_in p peers) x.links) before s t (none_fail s (count_by fails (closings (over_in p peers) x.links)) (closings_count (over_in p peers) x.links)) obeys is.leads)

  sound_then : IsSoundTurn t
  sound_then = sound_turns terms t (before ++ log) came.obeys

  -- what is left
  state_is : record q { seats = p.seats; awake = p.awake } ≡ p
  state_is = ap (λ (d : Desk). d.state) over.rest

  abbrev with_seats : List Seat → Parts
  with_seats seats = record { seats = seats; flow = p.flow; cache = p.cache; refused = p.refused; is_astray = p.is_astray }

  parts_is : parts q ≡ with_seats (seats_left p)
  parts_is = ap (λ (r : Turn). (let z : Parts = record { seats = q.seats.items; flow = r.flow; cache = r.cache; refused = r.refused; is_astray = r.is_astray } in z)) state_is ∙ ap with_seats over.seats

  same_name : q.name.items ≡ p.name.items
  same_name = ap (λ (r : Turn). r.name.items) state_is

  same_cache : q.cache ≡ p.cache
  same_cache = ap (λ (r : Turn). r.cache) state_is

  turn : ShowsTurn number none_leaves y.desk.peers q t
  turn = record {
    steps =
        subst (λ (n : List ℕ). ShowsSteps number n none_leaves y.desk.peers (parts q) t) (sym same_name)
        (subst (λ (ps : List Peer). ShowsSteps number p.name.items none_leaves ps (parts q) t) (sym over.peers)
        (subst (λ (r : Parts). ShowsSteps number p.name.items none_leaves (filter (goes_on p.is_stopped) peers) r t) (sym parts_is) is.shows.steps));
    name = same_name ∙ amid.turn.name ∙ ap (λ (w : Settings). w.name) (sym is.stays.settings);
    shares = ap (λ (r : Turn). r.shares_fetches) state_is ∙ amid.turn.shares ∙ ap (λ (w : Settings). w.shares_fetches) (sym is.stays.settings);
    clock = ap (λ (r : Turn). r.now) state_is ∙ amid.turn.clock ∙ sym is.stays.clock;
    ticked = ap (λ (r : Turn). r.is_ticked) state_is ∙ amid.turn.ticked ∙ sym is.stays.ticked;
    stopped = ap (λ (r : Turn). r.is_stopped) state_is ∙ amid.turn.stopped ∙ sym is.stays.stopped;
    bounded = subst (λ (m : Memory). IsBounded m) (sym same_cache) amid.turn.bounded;
  }

  -- each client that is left was there
  was : (j : ℕ) (new : Seat) → slice_get q.seats.items j ≡ Some new → (i : ℕ) × WasAt p.seats.items i new
  was j new here =
      let one : IsLeft p new = left_at p amid.turn.steps.order going j new (ap (λ (seats : List Seat). slice_get seats j) (sym over.seats) ∙ here) in
      (one.place, record { old = new; here = one.here; is = same_seat new })

  memory : Holds false p.cache q.cache
  memory = subst (λ (m : Memory). Holds false p.cache m) (sym same_cache) (loosely (parts p) (parts p) (carries_itself true (parts p))).memory

  -- those who are looked at
  few_seats : length (seats_left p) ≤ vec_capacity p.awake
  few_seats = le_trans (fewer_seats p) (le_trans (few_of_clients (length p.seats.items) (length s.clients) (same_length number p.name.items p.seats.items s.clients amid.turn.steps.shows.clients) sound.bounded.clients) amid.room)
    where
      few_of_clients : (a b : ℕ) → a ≡ b → b ≤ 256 → a ≤ 256
      few_of_clients a b same few = omega (arith, same, few)

  awake : AreAwake q
  awake = by (list_any (λ i. is_over_at i p) p.awake.items) (over.awake few_seats) over.seats
    where
      by : (b : Bool) → q.awake.items ≡ cond b (places (length (seats_left p))) p.awake.items → q.seats.items ≡ cond b (filter (stays p.is_stopped) p.seats.items) p.seats.items → AreAwake q
      by true looked left = all_awake q (looked ∙ ap (λ (seats : List Seat). places (length seats)) (sym over.seats))
      by false looked left =
          awake_on true p q (record { count = ap (λ (seats : List Seat). length seats) left; each = λ i new here. record { old = new; here = ap (λ (seats : List Seat). slice_get seats i) (sym left) ∙ here; is = same_seat new }; memory = same_cache; astray = λ is. ap (λ (r : Turn). r.is_astray) state_is ∙ is })
          looked (ap (λ (r : Turn). r.is_ticked) state_is) amid.awake

  left_links : y.links ≡ without_all (over_clients p ++ over_peers false peers) x.links
  left_links = over.links ∙ ap (λ (b : Bool). without_all (over_clients p ++ over_peers b peers) x.links) going

  left_peers : y.desk.peers ≡ filter (goes_on false) peers
  left_peers = over.peers ∙ ap (λ (b : Bool). filter (goes_on b) peers) going

  linked : AreLinked (peer_numbers y.desk.peers) y.links
  linked =
      subst (λ (ps : List Peer). AreLinked (peer_numbers ps) y.links) (sym over.peers)
      (subst (λ (links : List Link). AreLinked (peer_numbers (filter (goes_on p.is_stopped) peers)) links) (sym over.links) (links_left number p peers s x.links shows going clients amid.linked))

  few : length y.links ≤ 256 + length y.desk.peers
  few =
      subst (λ (ps : List Peer). length y.links ≤ 256 + length ps) (sym left_peers)
      (subst (λ (links : List Link). length links ≤ 256 + length (filter (goes_on false) peers)) (sym left_links)
      (few_left (over_clients p) peers x.links (λ n. subst (λ (i : ℕ). i ≤ 1) (sym (counted n s peers s.conns shows.steps.shows.conns)) (shows.may.apart n)) clients amid.linked amid.few))

  amid_then : StandsAmid number shelf y t
  amid_then = record {
    turn = turn;
    ready = ready_on number q.name.items p.cache q.cache s.next_instance p.seats.items q.seats.items s t amid.turn.steps.shows.table.table amid.ready was memory turn.steps.shows.table.table turn.steps.shows.clients (sourced t sound_then);
    kept = amid.kept;
    awake = awake;
    none = is.stays.connecting.none;
    going = is.stays.stopped ∙ amid.going;
    limits = ap (λ (r : Turn). r.limits) state_is ∙ amid.limits ∙ ap limits_by (sym is.stays.settings);
    waiting = subst (λ (f : Exchanges). AreAskable f.waiting) (sym (ap (λ (r : Turn). r.flow) state_is)) amid.waiting;
    placed = subst (λ (f : Exchanges). AreAskable f.placed) (sym (ap (λ (r : Turn). r.flow) state_is)) amid.placed;
    linked = linked;
    seated =
        subst (λ (seats : List Seat). AreOpen (numbers_of seats) y.links) (sym over.seats)
        (subst (λ (links : List Link). AreOpen (numbers_of (seats_left p)) links) (sym left_links) (seated_left p peers x.links amid.turn.steps.order going amid.seated amid.linked));
    given =
        subst (λ (top : ℕ). All (λ (link : Link). link.0 ≤ top) y.links) (sym over.top)
        (subst (λ (links : List Link). All (λ (link : Link). link.0 ≤ x.top) links) (sym over.links) (given_left x.top (all_over x.desk) x.links amid.given));
    few = few;
    top = top_of t.top s.top x.top y.top is.stays.top amid.top over.top;
    room = le_trans amid.room over.room;
    away = ap (λ (d : Desk). d.turned_away) over.rest ∙ amid.away;
  }

  pub has_closed : HasClosed terms before number shelf I y log s
  has_closed = record {
    then = t;
    comes = came;
    phase = is.stays.connecting.at;
    closed = is.closed;
    amid = amid_then;
    holds = supplies.closed before number x y log s t obeys (brief_before most before log brief) amid holds at over (subst (λ (hs : Log). Leads hs s t) (sym over.log_is) is.leads) came.obeys brief amid_then well;
  }

pub closing : ClosingsInARound
closing terms most before number shelf test x y log s supplies obeys brief amid holds at over well = has_closed terms most before number shelf (Passes test) x y log s supplies obeys brief amid holds at over well
