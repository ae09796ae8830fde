-- A read or a write of a connection is owed, and the turn stands there.
use Rattle.std.proofs.Common.{◌≡◌, refl, sym, subst, ap, ap₂, ◌∙◌, ℕ, find, List, Option, Some, None}
use Rattle.pp_cache.specs.Bounds.{IsBounded}
use Rattle.pp_cache.specs.Memory.{Memory}
use Rattle.pp_turns_law.specs.Log.{AreLinked}
use Rattle.pp_turns_law.proofs.Regained.{regains}
use Rattle.pp_desk.specs.Closings.{Sides, peer_numbers, sides}
use Rattle.pp_desk.specs.Marks.{marked_seat, touched}
use Rattle.pp_desk.specs.declared.desk.Desk.{Desk}
use Rattle.pp_flow_law.specs.Tables.{none_leaves}
use Rattle.pp_law.specs.After.{event, owing}
use Rattle.pp_law.specs.Connections.{on_client, on_conn}
use Rattle.pp_law.specs.Replies.{regained}
use Rattle.pp_law.specs.State.{State, Awaiting, Handling, Owed, Free, ReadOf, WriteTo}
use Rattle.pp_law.specs.Turn.{touch}
use Rattle.pp_obeys.proofs.Happenings.{goes_can_read, goes_can_write}
use Rattle.pp_peers.specs.Peers.{is_number}
use Rattle.pp_peers.specs.declared.peers.Peer.{Peer}
use Rattle.pp_proxy.specs.Handling.{Wakes}
use Rattle.pp_proxy.specs.Moving.{Moving, with_desk}
use Rattle.pp_seats.specs.declared.seat.Seat.{Seat}
use Rattle.pp_state.specs.Ends.{Parts, all_regained, numbers_of, on_seat_where, parts, place_of}
use Rattle.pp_states_law.specs.Steps.{ShowsSteps}
use Rattle.pp_turns_law.specs.Turns.{ShowsTurn}
use Rattle.pp_world.specs.declared.happening.Happening.TheVariants.{CanRead, CanWrite}
use Rattle.pp_events_law.proofs.Alike.{AreAlike, awake_alike, on_some, ready_alike, then}
use Rattle.pp_events_law.proofs.Anew.{all_anew, anew_may, touch_anew}
use Rattle.pp_events_law.proofs.Standing.{HasWords, desk_by, may_as, one_leads, open_as, steps_as}
use Rattle.pp_events_law.proofs.Touched.{client_touched, no_peer, no_seat, origin_touched, touch_may, touched_numbers}
use Rattle.pp_events_law.specs.Stands.{AreClients, AreReadyAt, StandsAtEvent}
use Rattle.pp_events_law.specs.Woken.{ClientReadsAreOwed, ClientWritesAreOwed, OriginReadsAreOwed, OriginWritesAreOwed}

touched_alike : (now n : ℕ) (x : Sides) → AreAlike x.parts (touched now n x).parts
touched_alike now n x = on_some (place_of n (numbers_of x.parts.seats)) (marked_seat now) x.parts (λ seat. record { id = refl; reply = refl; heard = refl; body_left = refl; front = refl; stage = refl; hung_up = refl; closing = refl; joins = λ id plain is. is })

touched_cache : (now n : ℕ) (x : Sides) → (touched now n x).parts.cache ≡ x.parts.cache
touched_cache now n x = by (place_of n (numbers_of x.parts.seats))
  where
    by : (o : Option ℕ) → (on_seat_where o (marked_seat now) x.parts).cache ≡ x.parts.cache
    by None = refl
    by (Some i) = refl

owed_is : (o : Owed) (n : ℕ) (s : State) → event (owing o n s) ≡ record (touch n (regained s)) { phase = Handling; owed = o }
unfolding event owing regained
owed_is o n s = ap (λ (t : State). record t { phase = Handling; owed = o }) (sym (touch_anew n s))

module _ (number : ℕ → ℕ) (id : ℕ) (x : Moving) (woken : Desk) (s : State) (stands : StandsAtEvent number Awaiting Free x s) (ready : AreReadyAt number x s) (wakes : Wakes id x.desk woken) (o : Owed) where
  abbrev old : Desk
  old = x.desk

  abbrev anew : Desk
  anew = wakes.anew

  abbrev t : State
  t = regained s

  abbrev u : State
  u = record (touch id t) { phase = Handling; owed = o }

  parts_are : parts anew.state ≡ record (parts old.state) { seats = all_regained old.state.cache old.state.awake.items old.state.seats.items }
  parts_are = ap₂ (λ (p : Parts) (ss : List Seat). record p { seats = ss }) (ap (λ (d : Desk). parts d.state) wakes.regains.rest) wakes.regains.is

  peers_are : anew.peers ≡ old.peers
  peers_are = ap (λ (d : Desk). d.peers) wakes.regains.rest

  anew_alike : AreAlike (parts old.state) (parts anew.state)
  anew_alike = subst (λ (p : Parts). AreAlike (parts old.state) p) (sym parts_are) (all_anew old.state.cache old.state.awake.items (parts old.state))

  shown : ShowsTurn number none_leaves anew.peers anew.state t
  shown = subst (λ (ps : List Peer). ShowsTurn number none_leaves ps anew.state t) (sym peers_are)
      (regains number none_leaves old.peers old.state anew.state s stands.desk.turn stands.awake (λ i seat here going. (ready i seat here going).follows) (record { seats = wakes.regains.is; rest = ap (λ (d : Desk). d.state) wakes.regains.rest }))

  pub clients_linked : AreClients (numbers_of anew.state.seats.items) x.links
  clients_linked = subst (λ (ns : List ℕ). AreClients ns x.links) (sym wakes.regains.numbers) stands.opened.clients

  pub origins_linked : AreLinked (peer_numbers anew.peers) x.links
  origins_linked = subst (λ (ps : List Peer). AreLinked (peer_numbers ps) x.links) (sym peers_are) stands.opened.origins

  -- as it shows what is touched of one who is there
  abbrev Touches : Type 0
  Touches = ShowsSteps number anew.state.name.items none_leaves (touched t.clock id (sides anew)).peers (touched t.clock id (sides anew)).parts (touch id t)

  sides_are : sides woken ≡ touched t.clock id (sides anew)
  sides_are = wakes.touches.is ∙ ap (λ (n : ℕ). touched n id (sides anew)) shown.clock

  pub woken_alike : AreAlike (parts old.state) (parts woken.state)
  woken_alike = then (parts old.state) (parts anew.state) (parts woken.state) anew_alike (subst (λ (z : Sides). AreAlike (parts anew.state) z.parts) (sym sides_are) (touched_alike t.clock id (sides anew)))

  same_cache : woken.state.cache ≡ old.state.cache
  same_cache = ap (λ (z : Sides). z.parts.cache) sides_are ∙ touched_cache t.clock id (sides anew) ∙ ap (λ (d : Desk). d.state.cache) wakes.regains.rest

  words : HasWords woken.state u
  unfolding touch regained on_conn on_client
  words = record {
    name = ap (λ (d : Desk). d.state.name.items) wakes.touches.rest ∙ shown.name;
    shares = ap (λ (d : Desk). d.state.shares_fetches) wakes.touches.rest ∙ shown.shares;
    clock = ap (λ (d : Desk). d.state.now) wakes.touches.rest ∙ shown.clock;
    ticked = ap (λ (d : Desk). d.state.is_ticked) wakes.touches.rest ∙ shown.ticked;
    stopped = ap (λ (d : Desk). d.state.is_stopped) wakes.touches.rest ∙ shown.stopped;
  }

  wakes_to : Touches → StandsAtEvent number Handling o (with_desk woken x) u
  unfolding touch regained on_conn on_client
  wakes_to touches = record {
    law = record { at = refl; owes = refl; none = stands.law.none };
    desk = desk_by number anew woken u (ap (λ (d : Desk). d.state.name.items) wakes.touches.rest) words (subst (λ (m : Memory). IsBounded m) (sym same_cache) stands.desk.turn.bounded)
        (subst (λ (z : Sides). ShowsSteps number anew.state.name.items none_leaves z.peers z.parts u) (sym sides_are)
        (steps_as number anew.state.name.items (touched t.clock id (sides anew)).peers (touched t.clock id (sides anew)).parts (touch id t) u
        (record { clients = refl; conns = refl; exchanges = refl; next_exchange = refl; instances = refl; next_instance = refl; chunks = refl; kept = λ i. refl }) touches))
        (may_as (touch id t) u refl refl refl (touch_may id t (anew_may s stands.desk.may)));
    ticked = ap (λ (d : Desk). d.state.has_ticked) wakes.touches.rest ∙ ap (λ (d : Desk). d.state.has_ticked) wakes.regains.rest ∙ stands.ticked;
    awake = awake_alike old.state woken.state woken_alike (ap (λ (d : Desk). d.state.awake.items) wakes.touches.rest ∙ ap (λ (d : Desk). d.state.awake.items) wakes.regains.rest)
        (ap (λ (d : Desk). d.state.is_ticked) wakes.touches.rest ∙ ap (λ (d : Desk). d.state.is_ticked) wakes.regains.rest) stands.awake;
    opened = open_as x (with_desk woken x) s.top u.top (wakes.touches.numbers ∙ wakes.regains.numbers) (ap (λ (z : Sides). peer_numbers z.peers) sides_are ∙ touched_numbers t.clock id (sides anew) ∙ ap (λ (ps : List Peer). peer_numbers ps) peers_are) refl refl refl stands.opened;
  }

  pub owed_stands : Touches → StandsAtEvent number Handling o (with_desk woken x) (event (owing o id s))
  owed_stands touches = subst (λ (v : State). StandsAtEvent number Handling o (with_desk woken x) v) (sym (owed_is o id s)) (wakes_to touches)

  pub owed_ready : AreReadyAt number (with_desk woken x) (event (owing o id s))
  unfolding event owing regained touch on_conn on_client
  owed_ready = ready_alike number s.next_instance (parts old.state) (parts woken.state) woken_alike same_cache ready

  -- who is there
  pub of_client : (i : ℕ) → place_of id (numbers_of old.state.seats.items) ≡ Some i → Touches
  of_client i there =
      let here : place_of id (numbers_of anew.state.seats.items) ≡ Some i = ap (λ (ns : List ℕ). place_of id ns) wakes.regains.numbers ∙ there in
      client_touched number anew.state.name.items (sides anew) t shown.steps id i here (no_peer id i (numbers_of anew.state.seats.items) anew.peers x.links here clients_linked origins_linked)

  pub of_origin : (peer : Peer) → find (is_number id) old.peers ≡ Some peer → Touches
  of_origin peer there =
      let here : find (is_number id) anew.peers ≡ Some peer = ap (λ (ps : List Peer). find (is_number id) ps) peers_are ∙ there in
      origin_touched number anew.state.name.items (sides anew) t shown.steps (anew_may s stands.desk.may) id peer here (no_seat id (numbers_of anew.state.seats.items) anew.peers x.links peer here clients_linked origins_linked)

pub client_reads : ClientReadsAreOwed
client_reads number id x woken s stands ready wakes i there = record {
  leads = one_leads s (event (owing (ReadOf id) id s)) (CanRead id) refl (goes_can_read s id stands.law.none stands.law.at);
  stands = owed_stands number id x woken s stands ready wakes (ReadOf id) (of_client number id x woken s stands ready wakes (ReadOf id) i there);
  ready = owed_ready number id x woken s stands ready wakes (ReadOf id);
}

pub client_writes : ClientWritesAreOwed
client_writes number id x woken s stands ready wakes i there = record {
  leads = one_leads s (event (owing (WriteTo id) id s)) (CanWrite id) refl (goes_can_write s id stands.law.none stands.law.at);
  stands = owed_stands number id x woken s stands ready wakes (WriteTo id) (of_client number id x woken s stands ready wakes (WriteTo id) i there);
  ready = owed_ready number id x woken s stands ready wakes (WriteTo id);
}

pub origin_reads : OriginReadsAreOwed
origin_reads number id x woken s stands ready wakes peer there = record {
  leads = one_leads s (event (owing (ReadOf id) id s)) (CanRead id) refl (goes_can_read s id stands.law.none stands.law.at);
  stands = owed_stands number id x woken s stands ready wakes (ReadOf id) (of_origin number id x woken s stands ready wakes (ReadOf id) peer there);
  ready = owed_ready number id x woken s stands ready wakes (ReadOf id);
}

pub origin_writes : OriginWritesAreOwed
origin_writes number id x woken s stands ready wakes peer there = record {
  leads = one_leads s (event (owing (WriteTo id) id s)) (CanWrite id) refl (goes_can_write s id stands.law.none stands.law.at);
  stands = owed_stands number id x woken s stands ready wakes (WriteTo id) (of_origin number id x woken s stands ready wakes (WriteTo id) peer there);
  ready = owed_ready number id x woken s stands ready wakes (WriteTo id);
}
