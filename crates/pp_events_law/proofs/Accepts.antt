-- A client that comes has the last of the seats, and the turn stands behind it.
use Rattle.std.proofs.Common.{◌≡◌, ◌≤◌, ◌<◌, refl, sym, subst, ap, ap₂, ◌∙◌, ℕ, zero, suc, ◌+◌, Bool, true, false, cond, find, length, List, [], ◌∷◌, ◌++◌, nat_lt, Option, Some, None, arith, le_refl}
use Rattle.std.proofs.lemmas.Bool.Decides.{nat_tests}
use Rattle.std.specs.List.{All}
use Rattle.std.specs.Prelude.{slice_get, slice_index}
use Rattle.pp_cache.specs.Bounds.{IsBounded}
use Rattle.pp_cache.specs.Memory.{Memory}
use Rattle.pp_cache_law.proofs.Finds.{find_joined, first_of_two}
use Rattle.pp_cache_law.proofs.Numbers.{some_is}
use Rattle.pp_client.specs.Clients.{new_client as new_side}
use Rattle.pp_turns_law.specs.Log.{AreLinked}
use Rattle.pp_turns_law.specs.Sides.{MayClose}
use Rattle.pp_desk.specs.Closings.{Sides, peer_numbers, sides}
use Rattle.pp_desk.specs.declared.desk.Desk.{Desk}
use Rattle.pp_flow_law.proofs.Entries.{length_last, none_some}
use Rattle.pp_flow_law.specs.Tables.{AreGiven, none_leaves}
use Rattle.pp_law.specs.After.{event, new_client, opened}
use Rattle.pp_law.specs.Connections.{is_client}
use Rattle.pp_law.specs.Lists.{has_number}
use Rattle.pp_law.specs.Phases.{in_phase}
use Rattle.pp_law.specs.Replies.{regained}
use Rattle.pp_law.specs.State.{State, Client, Awaiting, Handling, Free}
use Rattle.pp_links.specs.Links.{Link}
use Rattle.pp_obeys.proofs.Happenings.{goes_opened}
use Rattle.pp_obeys.specs.Moves.{Leads}
use Rattle.pp_peers.specs.declared.peers.Peer.{Peer}
use Rattle.pp_proxy.specs.Accepting.{IsSeated, first_account, newcomer}
use Rattle.pp_proxy.specs.Handling.{IsSilent}
use Rattle.pp_proxy.specs.Moving.{Turning}
use Rattle.pp_seats.specs.Seats.{is_silent, new_seat}
use Rattle.pp_seats.specs.declared.seat.Seat.{Seat}
use Rattle.pp_state.specs.Ends.{AreInOrder, Parts, numbers_of, parts}
use Rattle.pp_state.specs.declared.state.State.{State as Turn}
use Rattle.pp_states_law.proofs.Begun.{opens}
use Rattle.pp_states_law.proofs.Framed.{states}
use Rattle.pp_states_law.specs.States.{ShowsState}
use Rattle.pp_states_law.specs.Charges.{GoesOn}
use Rattle.pp_states_law.specs.Lines.{AllGo}
use Rattle.pp_states_law.specs.Losses.{IsComing}
use Rattle.pp_states_law.specs.Steps.{ShowsSteps, whole}
use Rattle.pp_turns_law.proofs.Looked.{not_ticked, roused}
use Rattle.pp_turns_law.specs.Firsts.{AreAwake}
use Rattle.pp_turns_law.specs.Marks.{AreLoud}
use Rattle.pp_turns_law.specs.Rows.{AreReady, IsReady}
use Rattle.pp_world.specs.declared.event.Event.TheVariants.{Accepted}
use Rattle.pp_world.specs.declared.event.Side.TheVariants.{Client as OfClient}
use Rattle.pp_world.specs.declared.happening.Happening.TheVariants.{Opened}
use Rattle.pp_events_law.proofs.Newcomer.{clients_more, each_given, given_more, order_more, origins_more, rising, seats_more}
use Rattle.pp_events_law.proofs.Alike.{ready_more}
use Rattle.pp_events_law.proofs.Standing.{HasWords, desk_by, may_as, one_leads}
use Rattle.pp_events_law.specs.Silent.{AcceptsLead, MayAccept}
use Rattle.pp_events_law.specs.Stands.{AreClients, AreOpen, AreReadyAt, IsHandled, StandsAtEvent, come}

-- ---- it asks nothing yet

newcomer_goes : (n now : ℕ) → GoesOn (new_client n now)
newcomer_goes n now = record { going = refl; given = refl }

go_with : (n : ℕ) (s : State) → AllGo s → AllGo (opened n s)
unfolding opened
go_with n s all = record {
  going = λ m e there i c asks found. both GoesOn (newcomer_goes n s.clock) i c (find (is_client i) s.clients) refl found (λ b here. all.going m e there i b asks here);
  coming = λ m e there i c asks found. both IsComing refl i c (find (is_client i) s.clients) refl found (λ b here. all.coming m e there i b asks here);
}
  where
    last : (P : Client → Type 0) → P (new_client n s.clock) → (c : Client) (b : Bool) → cond b (Some (new_client n s.clock)) None ≡ Some c → P c
    last P new c true found = subst P (some_is (new_client n s.clock) c found) new
    last P new c false found = absurd (none_some c found)

    both : (P : Client → Type 0) → P (new_client n s.clock) → (i : ℕ) (c : Client) (o : Option Client) → find (is_client i) s.clients ≡ o → find (is_client i) (s.clients ++ new_client n s.clock ∷ []) ≡ Some c → ((b : Client) → find (is_client i) s.clients ≡ Some b → P b) → P c
    both P new i c None none found old =
        last P new c (is_client i (new_client n s.clock))
        (sym (find_joined (is_client i) s.clients (new_client n s.clock ∷ []) ∙ ap (λ (o : Option Client). first_of_two o (find (is_client i) (new_client n s.clock ∷ []))) none) ∙ found)
    both P new i c (Some b) here found old =
        subst P (some_is b c (sym (find_joined (is_client i) s.clients (new_client n s.clock ∷ []) ∙ ap (λ (o : Option Client). first_of_two o (find (is_client i) (new_client n s.clock ∷ []))) here) ∙ found)) (old b here)

may_with : (n : ℕ) (s : State) → MayClose s → MayClose (opened n s)
unfolding opened
may_with n s may = record { apart = may.apart; orderly = may.orderly; go = go_with n s may.go }

above_top : (top given n : ℕ) → top ≤ given → given < n → nat_lt top n ≡ true
above_top top given n less above = grind (arith, nat_tests, less, above)

below : (m top n : ℕ) → m ≤ top → top < n → m < n
below m top n less above = omega (arith, less, above)

-- ---- it is looked at, and the others are as before

wider : (low next : ℕ) (ns : List ℕ) → AreGiven low next ns → AreGiven low (next + 1) ns
wider low next [] given = omega (arith, given)
wider low next (n ∷ ns) given = (given.0, wider (n + 1) next ns given.1)

silent_more : (seats : List Seat) (new : Seat) → is_silent new ≡ true → (Q : ℕ → Type 0) → ((j : ℕ) (seat : Seat) → slice_get seats j ≡ Some seat → Q j → is_silent seat ≡ true) → (j : ℕ) (seat : Seat) → slice_get (seats ++ new ∷ []) j ≡ Some seat → Q j → is_silent seat ≡ true
silent_more [] new silent Q each zero seat at asks = ap (λ (o : Seat). is_silent o) (sym (some_is new seat at)) ∙ silent
silent_more [] new silent Q each (suc j) seat at asks = absurd (none_some seat at)
silent_more (first ∷ seats) new silent Q each zero seat at asks = each 0 seat at asks
silent_more (first ∷ seats) new silent Q each (suc j) seat at asks = silent_more seats new silent (λ k. Q (suc k)) (λ k other there so. each (suc k) other there so) j seat at asks

one_within : (n m : ℕ) → m ≡ n + 1 → n < m
one_within n m is = omega (arith, is)

module _ (number : ℕ → ℕ) (c : ℕ) (x y : Turning) (s : State) (stands : StandsAtEvent number Awaiting Free x.moving s) (ready : AreReadyAt number x.moving s) (may : MayAccept c x s) (seated : IsSeated (newcomer c x.moving.desk) x.moving.desk y.moving.desk) (silent : IsSilent (come (Accepted c) x) y) where
  abbrev old : Desk
  old = x.moving.desk

  abbrev new : Desk
  new = y.moving.desk

  abbrev seat : Seat
  seat = newcomer c old

  abbrev seats : List Seat
  seats = old.state.seats.items ++ seat ∷ []

  abbrev u : State
  u = in_phase Handling (opened c s)

  abbrev p : Parts
  p = record (parts old.state) { seats = seats }

  parts_are : parts new.state ≡ p
  parts_are = ap₂ (λ (q : Parts) (ss : List Seat). record q { seats = ss }) (ap (λ (d : Desk). parts d.state) seated.rest) seated.seats

  sides_are : sides new ≡ record (sides old) { parts = p }
  sides_are = ap₂ (λ (q : Parts) (ps : List Peer). let z : Sides = record { parts = q; peers = ps } in z) parts_are (ap (λ (d : Desk). d.peers) seated.rest)

  numbers_are : numbers_of seats ≡ numbers_of old.state.seats.items ++ c ∷ []
  numbers_are = seats_more old.state.seats.items seat

  shown : ShowsState number old.state.name.items [] none_leaves (whole p old.peers) u
  unfolding opened
  shown =
      states number old.state.name.items [] none_leaves (whole p old.peers) (opened c s)
      (subst (λ (n : ℕ). ShowsState number old.state.name.items [] none_leaves (whole (record (parts old.state) { seats = old.state.seats.items ++ record (new_seat (new_side c n)) { account = first_account old.logs_replies } ∷ [] }) old.peers) (opened c s)) (sym stands.desk.turn.clock)
      (opens number old.state.name.items [] none_leaves (whole (parts old.state) old.peers) s stands.desk.turn.steps.shows c (first_account old.logs_replies)))
      u (record { clients = refl; conns = refl; exchanges = refl; next_exchange = refl; instances = refl; next_instance = refl; chunks = refl; kept = λ i. refl })

  steps : ShowsSteps number old.state.name.items none_leaves old.peers p u
  unfolding opened
  steps = record {
    shows = shown;
    order = subst (λ (ns : List ℕ). AreInOrder ns) (sym numbers_are)
        (order_more (numbers_of old.state.seats.items) c stands.desk.turn.steps.order (λ i within. below (slice_index (numbers_of old.state.seats.items) i) x.moving.top c (each_given (numbers_of old.state.seats.items) x.moving.links x.moving.top stands.opened.given stands.opened.clients i within) may.number.above));
    told = stands.desk.turn.steps.told;
    refused = stands.desk.turn.steps.refused;
  }

  words : HasWords new.state u
  unfolding opened
  words = record {
    name = ap (λ (d : Desk). d.state.name.items) seated.rest ∙ stands.desk.turn.name;
    shares = ap (λ (d : Desk). d.state.shares_fetches) seated.rest ∙ stands.desk.turn.shares;
    clock = ap (λ (d : Desk). d.state.now) seated.rest ∙ stands.desk.turn.clock;
    ticked = ap (λ (d : Desk). d.state.is_ticked) seated.rest ∙ stands.desk.turn.ticked;
    stopped = ap (λ (d : Desk). d.state.is_stopped) seated.rest ∙ stands.desk.turn.stopped;
  }

  -- with it, and before it is looked at
  abbrev unlooked : Turn
  unlooked = record new.state { awake = old.state.awake }

  loud_before : AreLoud unlooked
  loud_before = record {
    order = subst (λ (ss : List Seat). AreGiven 0 (length ss) old.state.awake.items) (sym seated.seats)
        (subst (λ (n : ℕ). AreGiven 0 n old.state.awake.items) (sym (length_last old.state.seats.items seat)) (wider 0 (length old.state.seats.items) old.state.awake.items stands.awake.order));
    others = λ j other here none. silent_more old.state.seats.items seat refl (λ k. has_number k old.state.awake.items ≡ false) (λ k one there so. (stands.awake.others k one there so).silent) j other (sym (ap (λ (ss : List Seat). slice_get ss j) seated.seats) ∙ here) none;
  }

  awake_behind : AreAwake new.state
  awake_behind =
      not_ticked new.state
      (roused unlooked new.state (length old.state.seats.items) loud_before (one_within (length old.state.seats.items) (length new.state.seats.items) (ap (λ (ss : List Seat). length ss) seated.seats ∙ length_last old.state.seats.items seat)) (seated.awake order may.room) refl)
      (ap (λ (d : Desk). d.state.is_ticked) seated.rest ∙ may.still)
    where
      order : AreInOrder old.state.awake.items
      order = rising old.state.awake.items 0 (length old.state.seats.items) stands.awake.order

  opened_behind : AreOpen y.moving u.top
  unfolding opened
  opened_behind = record {
    clients = subst (λ (ls : List Link). AreClients (numbers_of new.state.seats.items) ls) (sym silent.links)
        (subst (λ (ns : List ℕ). AreClients ns (x.moving.links ++ (c, OfClient) ∷ [])) (sym (ap (λ (ss : List Seat). numbers_of ss) seated.seats ∙ numbers_are))
        (clients_more (numbers_of old.state.seats.items) c x.moving.top x.moving.links stands.opened.given may.number.above stands.opened.clients));
    origins = subst (λ (ls : List Link). AreLinked (peer_numbers new.peers) ls) (sym silent.links)
        (subst (λ (ps : List Peer). AreLinked (peer_numbers ps) (x.moving.links ++ (c, OfClient) ∷ [])) (sym (ap (λ (d : Desk). d.peers) seated.rest))
        (origins_more (peer_numbers old.peers) x.moving.links (c, OfClient) stands.opened.origins));
    given = subst (λ (ls : List Link). All (λ link. link.0 ≤ y.moving.top) ls) (sym silent.links)
        (subst (λ (n : ℕ). All (λ link. link.0 ≤ n) (x.moving.links ++ (c, OfClient) ∷ [])) (sym silent.top) (given_more x.moving.links c x.moving.top stands.opened.given may.number.above));
    top = subst (λ (n : ℕ). c ≤ n) (sym silent.top) (le_refl c);
  }

  accept_stands : StandsAtEvent number Handling Free y.moving u
  unfolding opened
  accept_stands = record {
    law = record { at = refl; owes = stands.law.owes; none = stands.law.none };
    desk = desk_by number old new u (ap (λ (d : Desk). d.state.name.items) seated.rest) words (subst (λ (m : Memory). IsBounded m) (sym (ap (λ (d : Desk). d.state.cache) seated.rest)) stands.desk.turn.bounded)
        (subst (λ (z : Sides). ShowsSteps number old.state.name.items none_leaves z.peers z.parts u) (sym sides_are) steps) (may_as (opened c s) u refl refl refl (may_with c s stands.desk.may));
    ticked = ap (λ (d : Desk). d.state.has_ticked) seated.rest ∙ stands.ticked;
    awake = awake_behind;
    opened = opened_behind;
  }

  accept_leads : Leads (Opened c ∷ []) s (event (opened c s))
  accept_leads = one_leads s (event (opened c s)) (Opened c) refl (goes_opened s c stands.law.none stands.law.at (above_top s.top x.moving.top c stands.opened.top may.number.above) may.wanted)

  new_ready : IsReady number old.state.cache s.next_instance seat
  new_ready = record { follows = λ a id answer source. absurd (cc answer); key = λ refused. cc refused; joined = λ id plain brought. absurd (cc brought) }

  accept_ready : AreReadyAt number y.moving (event (opened c s))
  unfolding event regained opened
  accept_ready = subst (λ (q : Parts). AreReady number q.cache s.next_instance q.seats) (sym parts_are) (ready_more number old.state.cache s.next_instance old.state.seats.items seat new_ready ready)

  accept_handled : IsHandled number y.moving (event (opened c s))
  unfolding event
  accept_handled = record { handled = u; anew = refl; stands = accept_stands; follows = λ i other here going. (accept_ready i other here going).follows }

pub accepts : AcceptsLead
accepts number c x y s stands ready may seated silent =
    (record { leads = accept_leads number c x y s stands ready may seated silent; handled = accept_handled number c x y s stands ready may seated silent }, accept_ready number c x y s stands ready may seated silent)
