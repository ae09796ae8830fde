-- A connection to an origin was reached, and the turn stands behind it.
use Rattle.std.proofs.Common.{◌≡◌, refl, sym, subst, ap, ◌∙◌, ℕ, true, false, find, is_some, List, [], Option, Some, None}
use Rattle.pp_cache.specs.Bounds.{IsBounded}
use Rattle.pp_cache.specs.Memory.{Memory}
use Rattle.pp_cache_law.proofs.Finds.{find_passes}
use Rattle.pp_turns_law.proofs.Peers.{HasPeer, find_set, linked}
use Rattle.pp_turns_law.specs.Sides.{MayClose}
use Rattle.pp_desk.proofs.ClosingLemmas.{changed_numbers}
use Rattle.pp_desk.specs.Closings.{Sides, peer_numbers, sides}
use Rattle.pp_desk.specs.Marks.{marked_peer, touched}
use Rattle.pp_desk.specs.declared.desk.Desk.{Desk}
use Rattle.pp_flow_law.specs.Tables.{none_leaves}
use Rattle.pp_law.specs.After.{event, reached}
use Rattle.pp_law.specs.Connections.{conn, is_conn, on_client, on_conn}
use Rattle.pp_law.specs.Lists.{change}
use Rattle.pp_law.specs.Phases.{in_phase}
use Rattle.pp_law.specs.Replies.{regained}
use Rattle.pp_law.specs.State.{State, Conn, Awaiting, Handling, Free}
use Rattle.pp_law.specs.Turn.{marked_client, marked_conn, touch}
use Rattle.pp_law.specs.Connections.{is_client}
use Rattle.pp_obeys.proofs.Happenings.{goes_reached}
use Rattle.pp_peers.specs.Peers.{is_number, with_peer}
use Rattle.pp_peers.specs.declared.peers.Peer.{Peer}
use Rattle.pp_proxy.specs.Handling.{IsSilent, Reaches, reached_at, reached_in}
use Rattle.pp_proxy.specs.Moving.{Turning}
use Rattle.pp_state.specs.Ends.{numbers_of, parts, place_of}
use Rattle.pp_states_law.proofs.Connected.{reached as reached_shown}
use Rattle.pp_states_law.proofs.Rested.{changed_twice}
use Rattle.pp_states_law.proofs.Told.{told_next}
use Rattle.pp_states_law.specs.Steps.{ShowsSteps, whole}
use Rattle.pp_turns_law.specs.Rows.{AreReady}
use Rattle.pp_world.specs.declared.event.Event.TheVariants.{Reached as NowReached}
use Rattle.pp_world.specs.declared.happening.Happening.TheVariants.{Reached}
use Rattle.pp_events_law.proofs.Standing.{GoesOnLine, HasWords, awake_as, desk_by, go_as, may_as, may_by, one_leads, open_as, steps_as}
use Rattle.pp_events_law.proofs.Touched.{line_if, no_seat, origin_is, origin_touched, touch_may}
use Rattle.pp_events_law.specs.Silent.{IsSilentlyHandled, ReachesLead}
use Rattle.pp_events_law.specs.Stands.{AreReadyAt, IsHandled, StandsAtEvent, come}

-- ---- of the law: a mark and that it was reached, in either order

abbrev now_reached : Conn → Conn
now_reached k = record k { is_reached = true }

same_way : (n : ℕ) (s : State) → on_conn n now_reached (touch n s) ≡ reached n s
unfolding reached touch on_conn on_client
same_way n s =
    ap (λ (ks : List Conn). record s { clients = change (is_client n) (marked_client s.clock) s.clients; conns = ks })
    (changed_twice n (marked_conn s.clock) now_reached (λ j. refl) s.conns ∙ sym (changed_twice n now_reached (marked_conn s.clock) (λ j. refl) s.conns))

reach_line : GoesOnLine now_reached
reach_line = record { number = λ k. refl; orderly = λ k all. record { closed = all.closed; few = all.few } }

reach_may : (n : ℕ) (s : State) → MayClose s → MayClose (on_conn n now_reached s)
unfolding on_conn
reach_may n s may =
    may_by s (on_conn n now_reached s) (λ k. elim (is_conn n k) as (λ t. Conn) [ true ↦ now_reached k | false ↦ k ]) (line_if n now_reached reach_line) refl (go_as s (on_conn n now_reached s) refl refl may.go) may

reach_next : (n : ℕ) (s : State) → (on_conn n now_reached s).next_instance ≡ s.next_instance
unfolding on_conn
reach_next n s = refl

-- ---- of both

module _ (number : ℕ → ℕ) (k : ℕ) (x y : Turning) (s : State) (stands : StandsAtEvent number Awaiting Free x.moving s) (ready : AreReadyAt number x.moving s) (j : Conn) (there : conn s k ≡ Some j) (reaches : Reaches k x.moving.desk y.moving.desk) (silent : IsSilent (come (NowReached k) x) y) where
  abbrev old : Desk
  old = x.moving.desk

  abbrev new : Desk
  new = y.moving.desk

  abbrev u : State
  u = in_phase Handling (reached k s)

  abbrev its : HasPeer s k old.peers j
  its = linked s k old.peers s.conns j there stands.desk.turn.steps.shows.conns

  abbrev marked : Peer
  marked = marked_peer s.clock its.peer

  abbrev peers : List Peer
  peers = with_peer k marked old.peers

  nobody : place_of k (numbers_of old.state.seats.items) ≡ None
  nobody = no_seat k (numbers_of old.state.seats.items) old.peers x.moving.links its.peer its.there stands.opened.clients stands.opened.origins

  touched_is : touched s.clock k (sides old) ≡ record (sides old) { peers = peers }
  touched_is = origin_is number old.state.name.items (sides old) s stands.desk.turn.steps stands.desk.may k its.peer its.there nobody

  its_number : is_number k its.peer ≡ true
  its_number = find_passes (is_number k) old.peers its.peer its.there

  found_marked : find (is_number k) peers ≡ Some marked
  found_marked = find_set k its.peer marked old.peers its_number its.there

  abbrev there_now : Sides
  there_now = record (sides old) { peers = with_peer k (record marked { is_reached = true }) peers }

  sides_are : sides new ≡ there_now
  sides_are =
      reaches.reaches.is
      ∙ ap (λ (z : Sides). reached_at k z) (reaches.touches.is ∙ ap (λ (n : ℕ). touched n k (sides old)) stands.desk.turn.clock ∙ touched_is)
      ∙ ap (λ (o : Option Peer). let z : Sides = record (sides old) { peers = reached_in o k peers } in z) found_marked

  touched_steps : ShowsSteps number old.state.name.items none_leaves peers (parts old.state) (touch k s)
  touched_steps = subst (λ (z : Sides). ShowsSteps number old.state.name.items none_leaves z.peers z.parts (touch k s)) touched_is (origin_touched number old.state.name.items (sides old) s stands.desk.turn.steps stands.desk.may k its.peer its.there nobody)

  reached_steps : ShowsSteps number old.state.name.items none_leaves there_now.peers (parts old.state) (on_conn k now_reached (touch k s))
  reached_steps = record {
    shows = reached_shown number old.state.name.items [] none_leaves (whole (parts old.state) peers) (touch k s) touched_steps.shows k marked ((touch_may k s stands.desk.may).apart k) found_marked;
    order = touched_steps.order;
    told = told_next number old.state.cache (touch k s).next_instance (on_conn k now_reached (touch k s)).next_instance old.state.flow (reach_next k (touch k s)) touched_steps.told;
    refused = touched_steps.refused;
  }

  steps : ShowsSteps number old.state.name.items none_leaves there_now.peers (parts old.state) u
  steps = steps_as number old.state.name.items there_now.peers (parts old.state) (reached k s) u
      (record { clients = refl; conns = refl; exchanges = refl; next_exchange = refl; instances = refl; next_instance = refl; chunks = refl; kept = λ i. refl })
      (subst (λ (t : State). ShowsSteps number old.state.name.items none_leaves there_now.peers (parts old.state) t) (same_way k s) reached_steps)

  may : MayClose u
  may = may_as (reached k s) u refl refl refl (subst (λ (t : State). MayClose t) (same_way k s) (reach_may k (touch k s) (touch_may k s stands.desk.may)))

  words : HasWords new.state u
  unfolding reached touch on_conn on_client
  words = record {
    name = ap (λ (d : Desk). d.state.name.items) reaches.reaches.rest ∙ ap (λ (d : Desk). d.state.name.items) reaches.touches.rest ∙ stands.desk.turn.name;
    shares = ap (λ (d : Desk). d.state.shares_fetches) reaches.reaches.rest ∙ ap (λ (d : Desk). d.state.shares_fetches) reaches.touches.rest ∙ stands.desk.turn.shares;
    clock = ap (λ (d : Desk). d.state.now) reaches.reaches.rest ∙ ap (λ (d : Desk). d.state.now) reaches.touches.rest ∙ stands.desk.turn.clock;
    ticked = ap (λ (d : Desk). d.state.is_ticked) reaches.reaches.rest ∙ ap (λ (d : Desk). d.state.is_ticked) reaches.touches.rest ∙ stands.desk.turn.ticked;
    stopped = ap (λ (d : Desk). d.state.is_stopped) reaches.reaches.rest ∙ ap (λ (d : Desk). d.state.is_stopped) reaches.touches.rest ∙ stands.desk.turn.stopped;
  }

  reach_stands : StandsAtEvent number Handling Free y.moving u
  unfolding reached touch on_conn on_client
  reach_stands = record {
    law = record { at = refl; owes = stands.law.owes; none = stands.law.none };
    desk = desk_by number old new u (ap (λ (d : Desk). d.state.name.items) reaches.reaches.rest ∙ ap (λ (d : Desk). d.state.name.items) reaches.touches.rest) words
        (subst (λ (m : Memory). IsBounded m) (sym (ap (λ (z : Sides). z.parts.cache) sides_are)) stands.desk.turn.bounded) (subst (λ (z : Sides). ShowsSteps number old.state.name.items none_leaves z.peers z.parts u) (sym sides_are) steps) may;
    ticked = ap (λ (d : Desk). d.state.has_ticked) reaches.reaches.rest ∙ ap (λ (d : Desk). d.state.has_ticked) reaches.touches.rest ∙ stands.ticked;
    awake = awake_as old.state new.state (ap (λ (z : Sides). z.parts.seats) sides_are) (ap (λ (d : Desk). d.state.awake.items) reaches.reaches.rest ∙ ap (λ (d : Desk). d.state.awake.items) reaches.touches.rest)
        (ap (λ (d : Desk). d.state.is_ticked) reaches.reaches.rest ∙ ap (λ (d : Desk). d.state.is_ticked) reaches.touches.rest) stands.awake;
    opened = open_as x.moving y.moving s.top u.top (ap (λ (z : Sides). numbers_of z.parts.seats) sides_are)
        (ap (λ (z : Sides). peer_numbers z.peers) sides_are ∙ changed_numbers k marked (record marked { is_reached = true }) peers found_marked refl ∙ changed_numbers k its.peer marked old.peers its.there refl) silent.links silent.top refl stands.opened;
  }

  reach_ready : AreReadyAt number y.moving (event (reached k s))
  unfolding event regained reached touch on_conn on_client
  reach_ready = subst (λ (z : Sides). AreReady number z.parts.cache s.next_instance z.parts.seats) (sym sides_are) ready

  reach_handled : IsHandled number y.moving (event (reached k s))
  unfolding event
  reach_handled = record { handled = u; anew = refl; stands = reach_stands; follows = λ i seat here going. (reach_ready i seat here going).follows }

pub reaches : ReachesLead
reaches number k x y s stands ready has handles = by (conn s k) refl has
  where
    by : (o : Option Conn) → conn s k ≡ o → is_some o ≡ true → IsSilentlyHandled number (Reached k) y s (event (reached k s)) × AreReadyAt number y.moving (event (reached k s))
    by None none is = absurd (cc is)
    by (Some j) there is = (
      record { leads = one_leads s (event (reached k s)) (Reached k) refl (goes_reached s k stands.law.none stands.law.at has); handled = reach_handled number k x y s stands ready j there handles.0 handles.1 },
      reach_ready number k x y s stands ready j there handles.0 handles.1,
    )
