-- The clock ticks: a second begins, connections that are idle are closed, and the turn stands behind it.
use Rattle.std.proofs.Common.{◌≡◌, refl, sym, subst, ap, ap₂, ◌∙◌, ℕ, ◌-◌, Bool, true, false, ◌&&◌, ◌||◌, not, length, map, max, nat_le, List, [], ◌∷◌, Some}
use Rattle.std.specs.Prelude.{slice_get}
use Rattle.pp_cache.specs.Bounds.{IsBounded}
use Rattle.pp_turns_law.specs.Sides.{MayClose, ShowsSides}
use Rattle.pp_decide.specs.Patience.{is_leap as leaps_in_turn}
use Rattle.pp_desk.specs.Closings.{Sides, peer_numbers, sides}
use Rattle.pp_desk.specs.Marks.{marked_peers, marked_seat, marked_seats}
use Rattle.pp_desk.specs.Origins.{without_idle}
use Rattle.pp_desk.specs.declared.desk.Desk.{Desk}
use Rattle.pp_due.specs.Waits.{is_waiting, woken_by, woken_seat}
use Rattle.pp_endings_law.proofs.IdleOnes.{all_idle}
use Rattle.pp_endings_law.proofs.Walk.{as_many}
use Rattle.pp_endings_law.specs.Idle.{HasNoIdle, without_idle_conns}
use Rattle.pp_flow_law.specs.Tables.{none_leaves}
use Rattle.pp_law.specs.After.{event}
use Rattle.pp_law.specs.Lists.{Bytes}
use Rattle.pp_law.specs.Offers.{has_to_say}
use Rattle.pp_law.specs.Phases.{in_phase}
use Rattle.pp_law.specs.Replies.{regained}
use Rattle.pp_law.specs.State.{State, Client, Term, Awaiting, Handling, Free}
use Rattle.pp_law.specs.Turn.{is_leap, leap, marked_client, marked_conn, marks_anew, renew_marks, tick, tick_to, waits_for_exchange, woken_client}
use Rattle.pp_laws.specs.Runs.{IsIn}
use Rattle.pp_laws_turn.proofs.Amid.{clock_ticks}
use Rattle.pp_laws_turn.proofs.Laws.{has_source}
use Rattle.pp_laws_turn.proofs.Lifts.{turn_on}
use Rattle.pp_laws_turn.proofs.View.{facts_of}
use Rattle.pp_laws_turn.specs.SoundTurn.{HasSource}
use Rattle.pp_obeys.proofs.Happenings.{goes_clock}
use Rattle.pp_obeys.specs.Moves.{Leads}
use Rattle.pp_obeys.specs.Obeys.{Obeys}
use Rattle.pp_peers.specs.declared.peers.Peer.{Peer}
use Rattle.pp_proxy.specs.Handling.{IsSilent, TicksOn}
use Rattle.pp_proxy.specs.Moving.{Turning}
use Rattle.pp_seats.specs.declared.seat.Seat.{Seat}
use Rattle.pp_state.proofs.SeatsLemmas.{mapped_numbers}
use Rattle.pp_state.specs.Ends.{AreInOrder, numbers_of, parts}
use Rattle.pp_state.specs.Numbers.{places}
use Rattle.pp_state.specs.declared.state.State.{State as Turn}
use Rattle.pp_states_law.proofs.Begun.{leaps}
use Rattle.pp_states_law.proofs.Waited.{renewals}
use Rattle.pp_states_law.specs.States.{Parts as Whole, ShowsState}
use Rattle.pp_states_law.specs.Turns.{all_marked}
use Rattle.pp_states_law.proofs.Kept.{GoesThrough}
use Rattle.pp_states_law.specs.Charges.{GoesOn}
use Rattle.pp_states_law.specs.Losses.{IsComing}
use Rattle.pp_states_law.specs.Steps.{ShowsSteps, whole}
use Rattle.pp_turns_law.proofs.Looked.{all_awake}
use Rattle.pp_turns_law.proofs.Waiting.{waits_on}
use Rattle.pp_turns_law.specs.Rows.{AreReady}
use Rattle.pp_turns_law.specs.Turns.{IsFollowing}
use Rattle.pp_world.specs.Log.{Log}
use Rattle.pp_world.specs.declared.event.Event.TheVariants.{Tick}
use Rattle.pp_world.specs.declared.happening.Happening.TheVariants.{Clock}
use Rattle.pp_events_law.proofs.Alike.{AreAlike, IsAlike, itself, map_alike, ready_over, then}
use Rattle.pp_events_law.proofs.Closed.{all_idle_numbers, all_idle_on}
use Rattle.pp_events_law.proofs.Sourced.{follow_alike}
use Rattle.pp_events_law.proofs.Standing.{HasWords, desk_by, go_through, may_as, may_by, one_leads, open_as, steps_as}
use Rattle.pp_events_law.proofs.Touched.{mark_line, mark_through}
use Rattle.pp_events_law.specs.Silent.{HasRoom, TicksLead}
use Rattle.pp_events_law.specs.Stands.{AreReadyAt, IsHandled, StandsAtEvent, come}

-- ---- of the law: what a second leaves, and what it marks

abbrev marked : ℕ → State → State
marked now s = record s { has_ticked = true; clients = map (marked_client now) s.clients; conns = map (marked_conn now) s.conns }

marks_rest : (now : ℕ) (s : State) → marks_anew now s ≡ record s { has_ticked = (marks_anew now s).has_ticked; clients = (marks_anew now s).clients; conns = (marks_anew now s).conns }
unfolding marks_anew
marks_rest now s = by (is_leap now s)
  where
    by : (b : Bool) → (elim b as (λ t. State) [ false ↦ s | true ↦ marked now s ]) ≡ record s {
      has_ticked = (elim b as (λ t. State) [ false ↦ s | true ↦ marked now s ]).has_ticked;
      clients = (elim b as (λ t. State) [ false ↦ s | true ↦ marked now s ]).clients;
      conns = (elim b as (λ t. State) [ false ↦ s | true ↦ marked now s ]).conns;
    }
    by true = refl
    by false = refl

-- behind its first tick a life has ticked
marks_ticked : (now : ℕ) (s : State) → (marks_anew now s).has_ticked ≡ true
unfolding marks_anew
marks_ticked now s = by s.has_ticked (nat_le leap (now - s.clock)) refl
  where
    by : (a b : Bool) → s.has_ticked ≡ a → (elim (not a || b) as (λ t. State) [ false ↦ s | true ↦ marked now s ]).has_ticked ≡ true
    by true true is = refl
    by true false is = is
    by false b is = refl

marked_may : (now : ℕ) (s : State) → MayClose s → MayClose (marked now s)
marked_may now s may = may_by s (marked now s) (marked_conn now) (mark_line now) refl (go_through (marked_client now) (mark_through now) s (marked now s) refl refl may.go) may

anew_may : (now : ℕ) (s : State) → MayClose s → MayClose (marks_anew now s)
unfolding marks_anew
anew_may now s may = by (is_leap now s)
  where
    by : (b : Bool) → MayClose (elim b as (λ t. State) [ false ↦ s | true ↦ marked now s ])
    by true = marked_may now s may
    by false = may

woken_through : (now : ℕ) (s : State) → GoesThrough (woken_client now s)
woken_through now s = record { number = λ c. number_by c (waits_for_exchange s c && not (has_to_say s c)); goes = λ c on. goes_by c (waits_for_exchange s c && not (has_to_say s c)) on; comes = λ c on. comes_by c (waits_for_exchange s c && not (has_to_say s c)) on }
  where
    number_by : (c : Client) (b : Bool) → (elim b as (λ t. Client) [ true ↦ marked_client now c | false ↦ c ]).number ≡ c.number
    number_by c true = refl
    number_by c false = refl

    goes_by : (c : Client) (b : Bool) → GoesOn c → GoesOn (elim b as (λ t. Client) [ true ↦ marked_client now c | false ↦ c ])
    goes_by c true on = record { going = on.going; given = on.given }
    goes_by c false on = on

    comes_by : (c : Client) (b : Bool) → IsComing c → IsComing (elim b as (λ t. Client) [ true ↦ marked_client now c | false ↦ c ])
    comes_by c true on = on
    comes_by c false on = on

renew_may : (now : ℕ) (s : State) → MayClose s → MayClose (renew_marks now s)
unfolding renew_marks
renew_may now s may = record { apart = may.apart; orderly = may.orderly; go = go_through (woken_client now s) (woken_through now s) s (renew_marks now s) refl refl may.go }

-- who is marked now is not marked anew
twice_marked : (now : ℕ) (s : State) (cs : List Client) → map (woken_client now s) (map (marked_client now) cs) ≡ map (marked_client now) cs
twice_marked now s [] = refl
twice_marked now s (c ∷ cs) = ap₂ (λ (d : Client) (ds : List Client). d ∷ ds) (by (waits_for_exchange s (marked_client now c) && not (has_to_say s (marked_client now c)))) (twice_marked now s cs)
  where
    by : (b : Bool) → (elim b as (λ t. Client) [ true ↦ marked_client now (marked_client now c) | false ↦ marked_client now c ]) ≡ marked_client now c
    by true = refl
    by false = refl

renew_marked : (now : ℕ) (s : State) → renew_marks now (marked now s) ≡ marked now s
unfolding renew_marks
renew_marked now s = ap (λ (cs : List Client). record (marked now s) { clients = cs }) (twice_marked now (marked now s) s.clients)

-- ---- of the program: the same

woken_marked : (now : ℕ) (p : Turn) (seats : List Seat) → map (woken_seat now p) (map (marked_seat now) seats) ≡ map (marked_seat now) seats
woken_marked now p [] = refl
woken_marked now p (seat ∷ seats) = ap₂ (λ (d : Seat) (ds : List Seat). d ∷ ds) (by (is_waiting p (marked_seat now seat))) (woken_marked now p seats)
  where
    by : (b : Bool) → woken_by b now (marked_seat now seat) ≡ marked_seat now seat
    by true = refl
    by false = refl

woken_number : (now : ℕ) (p : Turn) (seat : Seat) → (woken_seat now p seat).client.id ≡ seat.client.id
woken_number now p seat = by (is_waiting p seat)
  where
    by : (b : Bool) → (woken_by b now seat).client.id ≡ seat.client.id
    by true = refl
    by false = refl

marked_numbers : (b : Bool) (now : ℕ) (seats : List Seat) → numbers_of (marked_seats b now seats) ≡ numbers_of seats
marked_numbers true now seats = mapped_numbers (marked_seat now) seats (λ seat. refl)
marked_numbers false now seats = refl

abbrev second_by : ℕ → Bool → Turn → Sides → Sides
second_by now b p x = record { parts = record x.parts { seats = map (woken_seat now p) (marked_seats b now x.parts.seats) }; peers = marked_peers b now x.peers }

second_numbers : (now : ℕ) (b : Bool) (p : Turn) (x : Sides) → numbers_of (second_by now b p x).parts.seats ≡ numbers_of x.parts.seats
second_numbers now b p x = mapped_numbers (woken_seat now p) (marked_seats b now x.parts.seats) (λ seat. woken_number now p seat) ∙ marked_numbers b now x.parts.seats

peers_marked : (b : Bool) (now : ℕ) (ps : List Peer) → peer_numbers (marked_peers b now ps) ≡ peer_numbers ps
peers_marked true now [] = refl
peers_marked true now (p ∷ ps) = ap (λ (ns : List ℕ). p.number ∷ ns) (peers_marked true now ps)
peers_marked false now ps = refl

mark_alike : (now : ℕ) (seat : Seat) → IsAlike seat (marked_seat now seat)
mark_alike now seat = record { id = refl; reply = refl; heard = refl; body_left = refl; front = refl; stage = refl; hung_up = refl; closing = refl; joins = λ id plain is. is }

woken_alike : (now : ℕ) (p : Turn) (seat : Seat) → IsAlike seat (woken_seat now p seat)
woken_alike now p seat = by (is_waiting p seat)
  where
    by : (b : Bool) → IsAlike seat (woken_by b now seat)
    by true = mark_alike now seat
    by false = itself seat

-- where the clock leaps
marked_shown : (number : ℕ → ℕ) (name : Bytes) (q : Whole) (s : State) (now : ℕ) → is_leap now s ≡ true → ShowsState number name [] none_leaves q s → ShowsState number name [] none_leaves (all_marked now q) (marked now s)
unfolding marks_anew
marked_shown number name q s now leaping shows =
    subst (λ (b : Bool). ShowsState number name [] none_leaves (elim b as (λ t. Whole) [ true ↦ all_marked now q | false ↦ q ]) (elim b as (λ t. State) [ false ↦ s | true ↦ marked now s ])) leaping (leaps number name [] none_leaves q s shows now)

-- ---- a second begins

module _ (terms : List Term) (log : Log) (number : ℕ → ℕ) (x y : Turning) (s : State) (seconds : ℕ) (obeys : Obeys terms s log) (stands : StandsAtEvent number Awaiting Free x.moving s) (ready : AreReadyAt number x.moving s) (room : HasRoom x.moving.desk.state) (bounded : IsBounded y.moving.desk.state.cache) (ticks : TicksOn seconds x.moving.desk y.moving.desk)
    (silent : IsSilent (come (Tick seconds) x) y) where
  abbrev old : Desk
  old = x.moving.desk

  abbrev new : Desk
  new = y.moving.desk

  abbrev p : Turn
  p = old.state

  abbrev name : Bytes
  name = p.name.items

  abbrev now : ℕ
  now = max s.clock seconds

  abbrev begun : Sides
  begun = second_by now (is_leap now s) p (sides old)

  abbrev anew : State
  anew = renew_marks now (marks_anew now s)

  abbrev t : State
  t = record anew { clock = now; is_ticked = true; has_lost_draft = false }

  abbrev u : State
  u = in_phase Handling (tick seconds s)

  renewed : ShowsSteps number name none_leaves old.peers (record (parts p) { seats = map (woken_seat now p) p.seats.items }) (renew_marks now s)
  unfolding renew_marks
  renewed = record {
    shows = renewals number name [] none_leaves (whole (parts p) old.peers) s stands.desk.turn.steps.shows now (is_waiting p)
        (λ i seat c here there seen going. waits_on number none_leaves old.peers p s name seat c stands.desk.turn seen going (ready i seat here (seen.closing ∙ going)));
    order = subst (λ (ns : List ℕ). AreInOrder ns) (sym (second_numbers now false p (sides old))) stands.desk.turn.steps.order;
    told = stands.desk.turn.steps.told;
    refused = stands.desk.turn.steps.refused;
  }

  all_marked_now : is_leap now s ≡ true → ShowsSteps number name none_leaves (marked_peers true now old.peers) (record (parts p) { seats = map (marked_seat now) p.seats.items }) (marked now s)
  all_marked_now leaping = record {
    shows = shown;
    order = subst (λ (ns : List ℕ). AreInOrder ns) (sym (marked_numbers true now p.seats.items)) stands.desk.turn.steps.order;
    told = stands.desk.turn.steps.told;
    refused = stands.desk.turn.steps.refused;
  }
    where
      shown : ShowsState number name [] none_leaves (all_marked now (whole (parts p) old.peers)) (marked now s)
      shown = marked_shown number name (whole (parts p) old.peers) s now leaping stands.desk.turn.steps.shows

  begun_shown : ShowsSteps number name none_leaves begun.peers begun.parts anew
  unfolding marks_anew
  begun_shown = by (is_leap now s) refl
    where
      by : (b : Bool) → is_leap now s ≡ b → ShowsSteps number name none_leaves (second_by now b p (sides old)).peers (second_by now b p (sides old)).parts (renew_marks now (elim b as (λ c. State) [ false ↦ s | true ↦ marked now s ]))
      by false none = renewed
      by true leaping =
          subst (λ (v : State). ShowsSteps number name none_leaves (second_by now true p (sides old)).peers (second_by now true p (sides old)).parts v) (sym (renew_marked now s))
          (subst (λ (seats : List Seat). ShowsSteps number name none_leaves (marked_peers true now old.peers) (record (parts p) { seats = seats }) (marked now s)) (sym (woken_marked now p p.seats.items)) (all_marked_now leaping))

  second_shown : ShowsSides number name begun t
  second_shown = record {
    steps = steps_as number name begun.peers begun.parts anew t (record { clients = refl; conns = refl; exchanges = refl; next_exchange = refl; instances = refl; next_instance = refl; chunks = refl; kept = λ i. refl }) begun_shown;
    may = may_as anew t refl refl refl (renew_may now (marks_anew now s) (anew_may now s stands.desk.may));
  }

  idle : ShowsSides number name (without_idle now begun) (without_idle_conns t) × HasNoIdle number t (without_idle_conns t)
  idle = all_idle number name begun t second_shown

  law_is : tick seconds s ≡ without_idle_conns t
  unfolding tick tick_to
  law_is = refl

  sides_are : sides new ≡ without_idle now begun
  sides_are =
      ticks.is
      ∙ ap (λ (n : ℕ). let z : Sides = without_idle (max n seconds) (second_by (max n seconds) (leaps_in_turn (max n seconds) p.has_ticked p.now) p (sides old)) in z) stands.desk.turn.clock
      ∙ ap₂ (λ (b : Bool) (n : ℕ). without_idle now (second_by now (leaps_in_turn now b n) p (sides old))) stands.ticked stands.desk.turn.clock

  alike_numbers : numbers_of (without_idle now begun).parts.seats ≡ numbers_of begun.parts.seats
  alike_numbers = let alike : AreAlike begun.parts (without_idle now begun).parts = all_idle_on now (peer_numbers begun.peers) begun in alike.numbers

  seats_numbers : numbers_of new.state.seats.items ≡ numbers_of p.seats.items
  seats_numbers = ap (λ (z : Sides). numbers_of z.parts.seats) sides_are ∙ alike_numbers ∙ second_numbers now (is_leap now s) p (sides old)

  steps : ShowsSteps number name none_leaves (sides new).peers (sides new).parts u
  steps = subst (λ (z : Sides). ShowsSteps number name none_leaves z.peers z.parts u) (sym sides_are)
      (steps_as number name (without_idle now begun).peers (without_idle now begun).parts (tick seconds s) u
      (record { clients = refl; conns = refl; exchanges = refl; next_exchange = refl; instances = refl; next_instance = refl; chunks = refl; kept = λ i. refl })
      (subst (λ (v : State). ShowsSteps number name none_leaves (without_idle now begun).peers (without_idle now begun).parts v) (sym law_is) idle.0.steps))

  may : MayClose u
  may = may_as (tick seconds s) u refl refl refl (subst (λ (v : State). MayClose v) (sym law_is) idle.0.may)

  -- what of the law's state a tick leaves
  abbrev Leaves : State → Type 0
  Leaves v = v ≡ record s { clock = now; is_ticked = true; has_lost_draft = false; has_ticked = true; clients = v.clients; conns = v.conns; exchanges = v.exchanges; instances = v.instances; chunks = v.chunks; entries = v.entries; displaced = v.displaced }

  second_leaves : Leaves t
  unfolding renew_marks
  second_leaves =
      ap (λ (v : State). record v { clients = anew.clients; clock = now; is_ticked = true; has_lost_draft = false }) (marks_rest now s)
      ∙ ap (λ (b : Bool). record s { clock = now; is_ticked = true; has_lost_draft = false; has_ticked = b; clients = anew.clients; conns = (marks_anew now s).conns }) (marks_ticked now s)
      ∙ ap (λ (v : State). record s { clock = now; is_ticked = true; has_lost_draft = false; has_ticked = true; clients = anew.clients; conns = (marks_anew now s).conns; exchanges = v.exchanges; instances = v.instances; chunks = v.chunks; entries = v.entries; displaced = v.displaced }) (sym (marks_rest now s))

  abbrev w : State
  w = without_idle_conns t

  all_leaves : Leaves (tick seconds s)
  all_leaves = subst (λ (v : State). Leaves v) (sym law_is)
      (idle.1.rest ∙ ap (λ (v : State). record v { clients = w.clients; conns = w.conns; exchanges = w.exchanges; instances = w.instances; chunks = w.chunks; entries = w.entries; displaced = w.displaced }) second_leaves)

  words : HasWords new.state u
  words = record {
    name = ap (λ (d : Desk). d.state.name.items) ticks.rest ∙ stands.desk.turn.name ∙ sym (ap (λ (v : State). v.settings.name) all_leaves);
    shares = ap (λ (d : Desk). d.state.shares_fetches) ticks.rest ∙ stands.desk.turn.shares ∙ sym (ap (λ (v : State). v.settings.shares_fetches) all_leaves);
    clock = ap (λ (d : Desk). d.state.now) ticks.rest ∙ ap (λ (n : ℕ). max n seconds) stands.desk.turn.clock ∙ sym (ap (λ (v : State). v.clock) all_leaves);
    ticked = ap (λ (d : Desk). d.state.is_ticked) ticks.rest ∙ sym (ap (λ (v : State). v.is_ticked) all_leaves);
    stopped = ap (λ (d : Desk). d.state.is_stopped) ticks.rest ∙ stands.desk.turn.stopped ∙ sym (ap (λ (v : State). v.is_stopped) all_leaves);
  }

  tick_stands : StandsAtEvent number Handling Free y.moving u
  tick_stands = record {
    law = record { at = refl; owes = ap (λ (v : State). v.owed) all_leaves ∙ stands.law.owes; none = ap (λ (v : State). v.made_room_for) all_leaves ∙ stands.law.none };
    desk = desk_by number old new u (ap (λ (d : Desk). d.state.name.items) ticks.rest) words bounded steps may;
    ticked = ap (λ (d : Desk). d.state.has_ticked) ticks.rest ∙ sym (ap (λ (v : State). v.has_ticked) all_leaves);
    awake = all_awake new.state (ticks.awake room ∙ ap (λ (n : ℕ). places n) (sym (as_many p.seats.items) ∙ sym (ap (λ (ns : List ℕ). length ns) seats_numbers) ∙ as_many new.state.seats.items));
    opened = open_as x.moving y.moving s.top u.top seats_numbers (ap (λ (z : Sides). peer_numbers z.peers) sides_are ∙ all_idle_numbers now (peer_numbers begun.peers) begun ∙ peers_marked (is_leap now s) now old.peers) silent.links silent.top (ap (λ (v : State). v.top) all_leaves) stands.opened;
  }

  -- what each follows is there
  marked_alike : (b : Bool) → AreAlike (parts p) (second_by now b p (sides old)).parts
  marked_alike true = then (parts p) (record (parts p) { seats = map (marked_seat now) p.seats.items }) (second_by now true p (sides old)).parts (map_alike (marked_seat now) (parts p) (λ seat. mark_alike now seat)) (map_alike (woken_seat now p) (record (parts p) { seats = map (marked_seat now) p.seats.items }) (λ seat. woken_alike now p seat))
  marked_alike false = map_alike (woken_seat now p) (parts p) (λ seat. woken_alike now p seat)

  begun_alike : AreAlike (parts p) (without_idle now begun).parts
  begun_alike = then (parts p) begun.parts (without_idle now begun).parts (marked_alike (is_leap now s)) (all_idle_on now (peer_numbers begun.peers) begun)

  sources : (c : Client) → IsIn c (tick seconds s).clients → c.is_closing ≡ false → HasSource (tick seconds s) c
  sources = has_source (tick seconds s) (facts_of (clock_ticks seconds s (turn_on terms s log obeys)))

  follow_on : (i : ℕ) (seat : Seat) → slice_get (without_idle now begun).parts.seats i ≡ Some seat → seat.is_closing ≡ false → IsFollowing (without_idle now begun).parts.cache seat
  follow_on = follow_alike number name (without_idle now begun).peers (parts p) (without_idle now begun).parts s (tick seconds s) stands.desk.turn.steps.shows.table.table (λ i other at on. (ready i other at on).follows) begun_alike
      (subst (λ (v : State). ShowsSteps number name none_leaves (without_idle now begun).peers (without_idle now begun).parts v) (sym law_is) idle.0.steps) sources

  ready_on : AreReady number (without_idle now begun).parts.cache s.next_instance (without_idle now begun).parts.seats
  ready_on = ready_over number s.next_instance (parts p) (without_idle now begun).parts begun_alike follow_on ready

  tick_ready : AreReadyAt number y.moving (event (tick seconds s))
  unfolding event regained
  tick_ready = subst (λ (n : ℕ). AreReady number new.state.cache n new.state.seats.items) (sym (ap (λ (v : State). v.next_instance) all_leaves)) (subst (λ (z : Sides). AreReady number z.parts.cache s.next_instance z.parts.seats) (sym sides_are) ready_on)

  tick_leads : Leads (Clock seconds ∷ []) s (event (tick seconds s))
  tick_leads = one_leads s (event (tick seconds s)) (Clock seconds) refl (goes_clock s seconds stands.law.none stands.law.at)

  tick_handled : IsHandled number y.moving (event (tick seconds s))
  unfolding event
  tick_handled = record { handled = u; anew = refl; stands = tick_stands; follows = λ i seat here going. (tick_ready i seat here going).follows }

pub ticks : TicksLead
ticks terms log number seconds x y s obeys stands ready room bounded handles = (record { leads = tick_leads terms log number x y s seconds obeys stands ready room bounded handles.0 handles.1; handled = tick_handled terms log number x y s seconds obeys stands ready room bounded handles.0 handles.1 }, tick_ready terms log number x y s seconds obeys stands ready room bounded handles.0 handles.1)
