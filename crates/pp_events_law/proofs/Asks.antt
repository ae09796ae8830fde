-- An origin is asked, and the turn stands behind it.
use Rattle.std.proofs.Common.{◌≡◌, ◌≤◌, refl, sym, subst, ap, ap₂, ◌∙◌, ℕ, zero, suc, ◌+◌, ◌-◌, Bool, true, false, ◌==◌, ◌&&◌, ◌||◌, not, cond, drop, find, is_some, length, length-drop, length-take-le, min, nat_lt, take, List, [], ◌∷◌, Option, Some, None, Ok, Err, option_map, arith}
use Rattle.std.proofs.lemmas.Bool.Decides.{nat_tests}
use Rattle.std.specs.Option.{option_and_then}
use Rattle.std.specs.Cmp.Lexicographic.{pointwise}
use Rattle.std.specs.Prelude.{nat_eq, slice_get, slice_set, IfOk, IfSome}
use Rattle.pp_cache.specs.Bounds.{IsBounded}
use Rattle.pp_cache.specs.Memory.{Memory}
use Rattle.pp_cache_law.proofs.Finds.{find_passes}
use Rattle.pp_cache_law.proofs.Numbers.{is_same, some_is}
use Rattle.pp_cache_law.specs.Pairs.{AreBoth}
use Rattle.pp_client.specs.Requests.{body_in}
use Rattle.pp_turns_law.proofs.Peers.{HasPeer, linked}
use Rattle.pp_turns_law.proofs.Changed.{get_set}
use Rattle.pp_turns_law.proofs.Regained.{get_other}
use Rattle.pp_desk.proofs.ClosingLemmas.{piped_numbers}
use Rattle.pp_desk.specs.Calls.{Took, write_log}
use Rattle.pp_desk.specs.Closings.{Sides, peer_numbers, sides}
use Rattle.pp_desk.specs.Replies.{EndsReplies}
use Rattle.pp_desk.specs.declared.desk.Desk.{Desk}
use Rattle.pp_endings_law.proofs.Walk.{as_many}
use Rattle.pp_flow.specs.Changes.{Exchanges, entry_of, line_of, with_errand}
use Rattle.pp_flow.specs.declared.entry.Entry.{Entry}
use Rattle.pp_flow.specs.declared.errand.Errand.{Errand}
use Rattle.pp_flow_law.specs.Tables.{AreGiven, line_in, none_leaves}
use Rattle.pp_law.specs.After.{event, gone, paid}
use Rattle.pp_law.specs.Asking.{ask, body_heard, is_reading, is_writing, left_to_ask}
use Rattle.pp_law.specs.Connections.{is_conn, is_for, is_outstanding}
use Rattle.pp_law.specs.Lists.{Bytes, has_number}
use Rattle.pp_law.specs.Permits.{is_owed}
use Rattle.pp_law.specs.Replies.{regained}
use Rattle.pp_law.specs.Responses.{ended}
use Rattle.pp_law.specs.State.{State, Client, Conn, Exchange, Owed, Phase, Term, Handling, Free, WriteTo}
use Rattle.pp_laws.proofs.Lists.{in_find}
use Rattle.pp_laws.proofs.Pieces.{ended-sound}
use Rattle.pp_laws_turn.proofs.Amid.{conn_ends}
use Rattle.pp_laws_turn.proofs.Laws.{sound_turns}
use Rattle.pp_laws_turn.proofs.Lifts.{sound_on, turn_on}
use Rattle.pp_laws_turn.specs.SoundTurn.{IsSoundTurn}
use Rattle.pp_links.specs.Links.{is_link}
use Rattle.pp_obeys.proofs.Happenings.{goes_asked, goes_broke}
use Rattle.pp_obeys.specs.Obeys.{Obeys}
use Rattle.pp_origins.specs.Asked.{AsksBy, BodyIsAsked, IsAskedOf, TakenAs, TextIsAsked, asked_more, asked_of_body, body_asked, body_sent, errand_changed, pipe_taken, text_asked}
use Rattle.pp_origins.specs.Responses.{origin_gone}
use Rattle.pp_peers.specs.Peers.{with_pipe}
use Rattle.pp_peers.specs.declared.peers.Peer.{Peer}
use Rattle.pp_peers_law.proofs.Asks.{lines}
use Rattle.pp_pipe.specs.Line.{taken}
use Rattle.pp_proxy.specs.Handling.{AsksOn}
use Rattle.pp_proxy.specs.Moving.{Turning}
use Rattle.pp_seats.specs.Seats.{is_silent}
use Rattle.pp_seats.specs.declared.seat.Seat.{Seat}
use Rattle.pp_seats_law.proofs.AllSeats.{places}
use Rattle.pp_seats_law.proofs.Entries.{exchanges}
use Rattle.pp_seats_law.specs.Clients.{IsAt, IsFound}
use Rattle.pp_seats_law.specs.Exchanges.{ShowsExchange}
use Rattle.pp_state.specs.Asking.{asked_next, asking as asking_in, asking_of, body_from, is_left, what_is_left}
use Rattle.pp_state.specs.Ends.{AreInOrder, numbers_of, parts, place_of, seat_for}
use Rattle.pp_state.specs.declared.asking.Asking.{Asking}
use Rattle.pp_state.specs.declared.asking.Asking.TheVariants.{Body as BodyLeft, Text as TextLeft}
use Rattle.pp_state.specs.declared.state.State.{State as Turn}
use Rattle.pp_states_law.proofs.Taken.{bodies}
use Rattle.pp_states_law.proofs.Texts.{texts}
use Rattle.pp_states_law.specs.Askings.{IsNext}
use Rattle.pp_states_law.proofs.Places.{HasSeat, at_place, has_seat, no_place, numbers_set}
use Rattle.pp_states_law.proofs.Told.{told_asked, told_next}
use Rattle.pp_states_law.proofs.Lines.{same_itself}
use Rattle.pp_states_law.specs.Charges.{GoesOn}
use Rattle.pp_states_law.specs.Steps.{ShowsSteps, whole}
use Rattle.pp_text.specs.Bytes.{is_empty}
use Rattle.pp_turns_law.specs.Firsts.{AreAwake, IsAsleep}
use Rattle.pp_turns_law.specs.Turns.{IsFollowing}
use Rattle.pp_world.specs.Connections.{side_of}
use Rattle.pp_world.specs.Log.{AppendsAll, Log}
use Rattle.pp_world.specs.Wire.{by_side}
use Rattle.pp_world.specs.declared.event.Side.{Side}
use Rattle.pp_world.specs.declared.event.Side.TheVariants.{Origin as OfOrigin}
use Rattle.pp_world.specs.declared.happening.Happening.TheVariants.{Asked, Broke, HungUp, Said}
use Rattle.pp_world.specs.declared.wire.WireFault.{WireFault}
use Rattle.pp_events_law.proofs.Asked.{IsNextIn, ask_may, ask_rest, line_of_next, next_in, same_bytes, take_short}
use Rattle.pp_events_law.proofs.AskedOf.{find_asker, find_nobody, heard_is}
use Rattle.pp_events_law.proofs.Calls.{is_linked, its_side, told_as}
use Rattle.pp_events_law.proofs.Gone.{IsGone, IsSoundAmid, ShowsGone, amid_by, gone_handled, gone_left, gone_next}
use Rattle.pp_events_law.proofs.Left.{AreLeft, left_flow, set_left}
use Rattle.pp_events_law.proofs.ReadyBehind.{ready_behind}
use Rattle.pp_events_law.proofs.Standing.{HasWords, may_as, one_leads, open_as, steps_as, turn_by}
use Rattle.pp_events_law.proofs.Touched.{link_of, none_client}
use Rattle.pp_events_law.specs.Asks.{AskingsLead, MayAsk}
use Rattle.pp_events_law.specs.Ready.{HasLedReady, StaysReady}
use Rattle.pp_events_law.specs.Stands.{AreReadyAt, IsHandled, StandsAtEvent}

-- ---- numbers and bytes

some_length : (xs : Bytes) → is_empty xs ≡ false → nat_lt 0 (length xs) ≡ true
some_length [] some = absurd (cc some)
some_length (x ∷ xs) some = grind (arith, nat_tests)

not_so : (b : Bool) → b ≡ false → not b ≡ true
not_so true is = absurd (cc is)
not_so false is = refl

-- the front of what is left
front_is : (n : ℕ) (xs left : Bytes) → xs ≡ left → n ≤ length xs → is_empty left ≡ false → (pointwise nat_eq (take n xs) (take (length (take n xs)) left) && not (is_empty left)) ≡ true
front_is n xs left same few some =
    ap₂ (λ (a b : Bool). a && b) (ap (λ (ys : Bytes). pointwise nat_eq (take n xs) ys) (ap₂ (λ (m : ℕ) (ys : Bytes). take m ys) (length-take-le n xs few) (sym same)) ∙ same_bytes (take n xs)) (not_so (is_empty left) some)

within_most : (a n len : ℕ) → n ≤ len - a → 1 ≤ len - a → len ≤ 16384 → min (a + n) 18446744073709551615 ≡ a + n
within_most a n len few less short = omega (arith, few, less, short)

some_more : (xs : Bytes) (n : ℕ) → is_empty xs ≡ false → length xs ≡ n → 1 ≤ n
some_more [] n some is = absurd (cc some)
some_more (x ∷ xs) n some is = omega (arith, is)

take_less : (n : ℕ) (xs : List ℕ) → length (take n xs) ≤ length xs
take_less zero xs = omega arith
take_less (suc n) [] = omega arith
take_less (suc n) (x ∷ xs) = omega (arith, take_less n xs)

less_still : (a b c : ℕ) → a ≤ b → b ≤ c → a ≤ c
less_still a b c one two = omega (arith, one, two)

module _ (terms : List Term) (log : Log) (number : ℕ → ℕ) (x y : Turning) (s : State) (j : Conn) (e : Exchange) (obeys : Obeys terms s log) (stands : StandsAtEvent number Handling (WriteTo j.number) x.moving s) (ready : AreReadyAt number x.moving s) (may : MayAsk j.number x s j e) (bounded : IsBounded y.moving.desk.state.cache)
    (asks : AsksOn j.number x y) where
  abbrev k : ℕ
  k = j.number

  abbrev old : Desk
  old = x.moving.desk

  abbrev new : Desk
  new = y.moving.desk

  abbrev p : Turn
  p = old.state

  abbrev name : Bytes
  name = p.name.items

  abbrev f : Exchanges
  f = p.flow

  its : HasPeer s k old.peers j
  its = linked s k old.peers s.conns j may.there stands.desk.turn.steps.shows.conns

  link : find (is_link k) x.moving.links ≡ Some (k, OfOrigin)
  link = link_of k old.peers x.moving.links its.peer stands.opened.origins its.there

  side : (l : Log) → x.log ≡ Some l → side_of k l ≡ Some OfOrigin
  side l told = its_side x.log x.moving.top x.moving.links k OfOrigin l may.linked link told

  -- ---- what is asked next

  next : IsNextIn number f s j.line e
  next = next_in number f s stands.desk.turn.steps.shows.exchanges.each j.line e (line_of_next s k j e may.there may.next)

  record HasEntry : Type 0 where
    entry : Entry
    here : entry_of e.number f ≡ Some entry
    shows : ShowsExchange number entry e

  has : HasEntry
  has = by (entry_of e.number f) refl (subst (λ (o : Option Exchange). AreBoth (ShowsExchange number) (entry_of e.number f) o) next.known (stands.desk.turn.steps.shows.exchanges.each e.number))
    where
      by : (o : Option Entry) → entry_of e.number f ≡ o → AreBoth (ShowsExchange number) o (Some e) → HasEntry
      by None is both = absurd both
      by (Some entry) is both = record { entry = entry; here = is; shows = both }

  line : line_of k f.placed ≡ j.line
  line = stands.desk.turn.steps.shows.exchanges.lines k ∙ ap (λ (o : Option Conn). line_in o) may.there

  asked_first : asked_next k f ≡ Some e.number
  asked_first = ap (λ (ns : List ℕ). find (λ n. is_left (entry_of n f)) (take 16 ns)) line ∙ ap (λ (ns : List ℕ). find (λ n. is_left (entry_of n f)) ns) (take_short 16 j.line may.few) ∙ next.found

  asks_what : asking_in k p.seats.items f ≡ what_is_left e.number p.seats.items (Some has.entry)
  asks_what = ap (λ (o : Option ℕ). asking_of p.seats.items f o) asked_first ∙ ap (λ (o : Option Entry). what_is_left e.number p.seats.items o) has.here

  is_next : IsNext (whole (parts p) old.peers) s has.entry e j
  is_next = record { entry = has.here; there = may.there; next = may.next; goes_on = may.going }

  -- ---- so much was asked

  record HasAsked (n : ℕ) : Type 0 where
    handled : IsHandled number y.moving (paid (ask k n s))
    stays_ready : StaysReady number x y (paid (ask k n s))

  module _ (n : ℕ) (z : Sides) (is : sides new ≡ z) (steps : ShowsSteps number name none_leaves z.peers z.parts (ask k n s)) (seats : numbers_of z.parts.seats ≡ numbers_of p.seats.items) (cache : z.parts.cache ≡ p.cache) (peers : peer_numbers z.peers ≡ peer_numbers old.peers)
      (silent : (i : ℕ) (seat : Seat) → slice_get z.parts.seats i ≡ Some seat → (was : Seat) × (slice_get p.seats.items i ≡ Some was) × (is_silent seat ≡ is_silent was))
      (follow : (i : ℕ) (seat : Seat) → slice_get z.parts.seats i ≡ Some seat → seat.is_closing ≡ false → IsFollowing p.cache seat) where
    abbrev t : State
    t = ask k n s

    abbrev u : State
    u = record t { owed = Free }

    stays : {A : Type 0} (g : State → A) → g (record s { clients = t.clients; exchanges = t.exchanges }) ≡ g s → g t ≡ g s
    stays g one = ap g (ask_rest k n s) ∙ one

    same_name : new.state.name.items ≡ name
    same_name = ap (λ (d : Desk). d.state.name.items) asks.rest

    words : HasWords new.state u
    words = record {
      name = same_name ∙ stands.desk.turn.name ∙ sym (stays (λ v. v.settings.name) refl);
      shares = ap (λ (d : Desk). d.state.shares_fetches) asks.rest ∙ stands.desk.turn.shares ∙ sym (stays (λ v. v.settings.shares_fetches) refl);
      clock = ap (λ (d : Desk). d.state.now) asks.rest ∙ stands.desk.turn.clock ∙ sym (stays (λ v. v.clock) refl);
      ticked = ap (λ (d : Desk). d.state.is_ticked) asks.rest ∙ stands.desk.turn.ticked ∙ sym (stays (λ v. v.is_ticked) refl);
      stopped = ap (λ (d : Desk). d.state.is_stopped) asks.rest ∙ stands.desk.turn.stopped ∙ sym (stays (λ v. v.is_stopped) refl);
    }

    awake_behind : AreAwake new.state
    awake_behind = record {
      order = subst (λ (ns : List ℕ). AreGiven 0 (length new.state.seats.items) ns) (sym (ap (λ (d : Desk). d.state.awake.items) asks.rest)) (subst (λ (m : ℕ). AreGiven 0 m p.awake.items) (sym (sym (as_many new.state.seats.items) ∙ ap (λ (ns : List ℕ). length ns) asks.numbers ∙ as_many p.seats.items)) stands.awake.order);
      others = λ i seat here out.
          let one : (was : Seat) × (slice_get p.seats.items i ≡ Some was) × (is_silent seat ≡ is_silent was) = silent i seat (ap (λ (q : Sides). slice_get q.parts.seats i) (sym is) ∙ here) in
          let asleep : IsAsleep p one.0 = stands.awake.others i one.0 one.1 (ap (λ (ns : List ℕ). has_number i ns) (sym (ap (λ (d : Desk). d.state.awake.items) asks.rest)) ∙ out) in
          record { silent = one.2 ∙ asleep.silent; ticked = ap (λ (d : Desk). d.state.is_ticked) asks.rest ∙ asleep.ticked };
    }

    asked_stands : StandsAtEvent number Handling Free y.moving u
    asked_stands = record {
      law = record { at = stays (λ v. v.phase) refl ∙ stands.law.at; owes = refl; none = stays (λ v. v.made_room_for) refl ∙ stands.law.none };
      desk = record {
        turn = turn_by number new.peers new.state u words bounded
            (subst (λ (text : Bytes). ShowsSteps number text none_leaves new.peers (parts new.state) u) (sym same_name)
            (subst (λ (q : Sides). ShowsSteps number name none_leaves q.peers q.parts u) (sym is) (steps_as number name z.peers z.parts t u (record { clients = refl; conns = refl; exchanges = refl; next_exchange = refl; instances = refl; next_instance = refl; chunks = refl; kept = λ i. refl }) steps)));
        may = may_as t u refl refl refl (ask_may k n s stands.desk.may);
      };
      ticked = ap (λ (d : Desk). d.state.has_ticked) asks.rest ∙ stands.ticked ∙ sym (stays (λ v. v.has_ticked) refl);
      awake = awake_behind;
      opened = open_as x.moving y.moving s.top u.top asks.numbers (ap (λ (q : Sides). peer_numbers q.peers) is ∙ peers) asks.one.links asks.one.top (stays (λ v. v.top) refl) stands.opened;
    }

    asked_handled : IsHandled number y.moving (paid (ask k n s))
    unfolding paid
    asked_handled = record {
      handled = u;
      anew = refl;
      stands = asked_stands;
      follows = λ i seat here going. subst (λ (m : Memory). IsFollowing m seat) (sym (ap (λ (q : Sides). q.parts.cache) is ∙ cache)) (follow i seat (ap (λ (q : Sides). slice_get q.parts.seats i) (sym is) ∙ here) going);
    }

    asked_ready : AreLeft (parts p) z.parts → StaysReady number x y (paid (ask k n s))
    unfolding paid regained
    asked_ready left = ready_behind number x y s (paid (ask k n s)) (stays (λ v. v.next_instance) refl) (subst (λ (q : Sides). AreLeft (parts p) q.parts) (sym is) left) asked_handled.follows ready

    asked_stays : AreLeft (parts p) z.parts → HasAsked n
    asked_stays left = record { handled = asked_handled; stays_ready = asked_ready left }

  -- the happening leads there
  module _ (n : ℕ) (bytes : Bytes) (same : bytes ≡ left_to_ask s e) (few : n ≤ length bytes) (told : AppendsAll x.log y.log (write_log k bytes (Some (Ok n)))) (has_asked : HasAsked n) where
    asked_led : HasLedReady number x y s
    asked_led = record {
      led = record {
        log = Asked k (take n bytes) ∷ [];
        then = paid (ask k (length (take n bytes)) s);
        handled = record {
          told = told_as x.log y.log (write_log k bytes (Some (Ok n))) (Asked k (take n bytes) ∷ []) told (λ l is. ap (λ (o : Option Side). by_side o (Said k (length bytes) (take n bytes)) (Asked k (take n bytes)) ∷ []) (side l is));
          leads = one_leads s (paid (ask k (length (take n bytes)) s)) (Asked k (take n bytes)) refl (goes_asked s k (take n bytes) e stands.law.none stands.law.owes may.next (front_is n bytes (left_to_ask s e) same few may.some));
          handled = subst (λ (m : ℕ). IsHandled number y.moving (paid (ask k m s))) (sym (length-take-le n bytes few)) has_asked.handled;
        };
      };
      ready = subst (λ (m : ℕ). StaysReady number x y (paid (ask k m s))) (sym (length-take-le n bytes few)) has_asked.stays_ready;
    }

  -- ---- the write failed

  sound : IsSoundTurn s
  sound = sound_turns terms s log obeys

  amid : IsSoundAmid (ended false j s)
  amid = amid_by (ended false j s) (ended-sound false j s refl (in_find (is_conn k) j s.conns may.there).0 (sound_on terms s log obeys)) (conn_ends false j s (turn_on terms s log obeys))

  has_shown : ShowsGone number k old x.moving.links x.moving.top s j
  has_shown = record {
    shows = record { steps = stands.desk.turn.steps; may = stands.desk.may };
    words = record { name = stands.desk.turn.name; shares = stands.desk.turn.shares; clock = stands.desk.turn.clock; ticked = stands.desk.turn.ticked; stopped = stands.desk.turn.stopped };
    may = record { there = may.there; goes_on = may.going; answers = may.answers; once = sound.once };
    amid = amid;
    ready = λ i seat here going. (ready i seat here going).follows;
    unsaid = λ i seat here going. (may.settled i seat here).said going;
    awake = stands.awake;
    ticked = stands.ticked;
    at = stands.law.at;
    none = stands.law.none;
    opened = stands.opened;
  }

  -- attempts count anew no more
  event_is : event s ≡ s
  unfolding event
  event_is = ap (λ (ph : Phase). regained (record s { phase = ph })) (sym stands.law.at) ∙ may.anew

  owed_it : is_owed s k ≡ true
  owed_it = ap (λ (o : Owed). is_reading o k || is_writing o k) stands.law.owes ∙ same_itself k

  abbrev EndsGone : Type 0
  EndsGone = EndsReplies p.awake.items (origin_gone false k (sides old)) (sides new)

  is_gone : EndsGone → IsGone k old new
  is_gone ends = record { ends = ends; numbers = asks.numbers; rest = asks.rest }

  broken_handled : EndsGone → IsHandled number y.moving (paid (gone false k s))
  broken_handled ends = gone_handled number k old x.moving.links x.moving.top s j y.moving has_shown (is_gone ends) bounded asks.one.links asks.one.top

  broken_left : EndsGone → AreLeft (parts p) (parts new.state)
  broken_left ends = gone_left number k old x.moving.links x.moving.top s j y.moving has_shown (is_gone ends) bounded asks.one.links asks.one.top

  broken_next : EndsGone → (gone false k s).next_instance ≡ s.next_instance
  broken_next ends = gone_next number k old x.moving.links x.moving.top s j y.moving has_shown (is_gone ends) bounded asks.one.links asks.one.top

  broken_ready : EndsGone → StaysReady number x y (paid (gone false k s))
  unfolding paid regained
  broken_ready ends = ready_behind number x y s (paid (gone false k s)) (broken_next ends) (broken_left ends) (broken_handled ends).follows ready

  broken : (fault : WireFault) (bytes : Bytes) → AppendsAll x.log y.log (write_log k bytes (Some (Err fault))) → EndsReplies p.awake.items (origin_gone false k (sides old)) (sides new) → HasLedReady number x y s
  broken fault bytes told ends = record {
    led = record {
      log = Broke k ∷ [];
      then = paid (gone false k (event s));
      handled = record {
        told = told_as x.log y.log (write_log k bytes (Some (Err fault))) (Broke k ∷ []) told (λ l is. ap (λ (o : Option Side). by_side o (HungUp k) (Broke k) ∷ []) (side l is));
        leads = one_leads s (paid (gone false k (event s))) (Broke k) refl (goes_broke s k stands.law.none owed_it (ap (λ (o : Option Conn). is_some o) may.there));
        handled = subst (λ (v : State). IsHandled number y.moving (paid (gone false k v))) (sym event_is) (broken_handled ends);
      };
    };
    ready = subst (λ (v : State). StaysReady number x y (paid (gone false k v))) (sym event_is) (broken_ready ends);
  }

  -- ---- by what the call took

  module _ (bytes : Bytes) (same : bytes ≡ left_to_ask s e) (took_as : ℕ → Sides → Sides) (of : IsAskedOf k bytes p.awake.items x.moving.links took_as (sides old) (sides new) x.log y.log) (shown : (n : ℕ) → n ≤ length bytes → sides new ≡ took_as n (sides old) → HasAsked n) where
    called : is_some of.took ≡ true
    called = of.called ∙ ap₂ (λ (a b : Bool). a && b) (is_linked k x.moving.links (k, OfOrigin) link) (ap (λ (xs : Bytes). nat_lt 0 (length xs)) same ∙ some_length (left_to_ask s e) may.some)

    by_took : (took : Took) → is_some took ≡ true → AppendsAll x.log y.log (write_log k bytes took) → IfSome took (λ r. IfOk r (λ n. n ≤ length bytes)) → TakenAs took k p.awake.items took_as (sides old) (sides new) → HasLedReady number x y s
    by_took None none told within is = absurd (cc none)
    by_took (Some (Ok n)) some told within is = asked_led n bytes same within told (shown n within is)
    by_took (Some (Err fault)) some told within is = broken fault bytes told is

    led : HasLedReady number x y s
    led = by_took of.took called of.told of.within of.is

  -- ---- of its text

  module _ (out : is_outstanding e ≡ false) where
    abbrev left : ℕ
    left = length has.entry.text.items - has.entry.errand.asked

    abbrev told_so : Errand
    told_so = has.entry.errand

    asks_text : asking_in k p.seats.items f ≡ Some (TextLeft e.number left)
    asks_text = asks_what ∙ ap (λ (b : Bool). cond b (body_from e.number told_so.body_left (seat_for has.entry.exchange p.seats.items)) (Some (TextLeft e.number left))) ((exchanges number has.entry e has.shows).outstanding ∙ out)

    text_of : IsAskedOf k (take left its.peer.pipe.out) p.awake.items x.moving.links (text_asked k e.number p.now) (sides old) (sides new) x.log y.log
    text_of =
        subst (λ (o : Option Peer). TextIsAsked o k e.number left p.now p.awake.items x.moving.links (sides old) (sides new) x.log y.log) its.there
        (subst (λ (o : Option Asking). AsksBy o k p.now p.awake.items x.moving.links (sides old) (sides new) x.log y.log) asks_text asks.asks)

    text_same : take left its.peer.pipe.out ≡ left_to_ask s e
    text_same = ap₂ (λ (t : Bytes) (n : ℕ). take (length t - n) its.peer.pipe.out) has.shows.text has.shows.asked ∙ lines s its.peer j e its.shows may.going (record { there = may.there; next = may.next; of_text = out })

    left_is : left_to_ask s e ≡ drop e.asked e.text
    left_is = ap (λ (b : Bool). elim b as (λ c. Bytes) [ false ↦ drop e.asked e.text | true ↦ body_heard s e ]) out

    abbrev text_sides : ℕ → Sides
    text_sides n = record {
      parts = record (parts p) { flow = with_errand e.number (record told_so { asked = told_so.asked + n; requested = s.clock }) f };
      peers = with_pipe k (taken n its.peer.pipe) old.peers;
    }

    text_few : (n : ℕ) → n ≤ length (take left its.peer.pipe.out) → min (told_so.asked + n) 18446744073709551615 ≡ told_so.asked + n
    text_few n few =
        let nonempty : 1 ≤ length e.text - e.asked = some_more (drop e.asked e.text) (length e.text - e.asked) (ap (λ (xs : Bytes). is_empty xs) (sym left_is) ∙ may.some) (length-drop e.asked e.text) in
        let most : n ≤ length e.text - e.asked = subst (λ (m : ℕ). n ≤ m) (ap (λ (xs : Bytes). length xs) (text_same ∙ left_is) ∙ length-drop e.asked e.text) few in
        subst (λ (a : ℕ). min (a + n) 18446744073709551615 ≡ a + n) (sym has.shows.asked) (within_most e.asked n (length e.text) most nonempty may.short)

    text_is : (n : ℕ) → n ≤ length (take left its.peer.pipe.out) → text_asked k e.number p.now n (sides old) ≡ text_sides n
    text_is n few =
        ap₂ (λ (o : Option Errand) (u : Option Peer). let q : Sides = record { parts = record (parts p) { flow = errand_changed e.number (asked_more n p.now) o f }; peers = pipe_taken k n u old.peers } in q) (ap (λ (o : Option Entry). option_map (λ (i : Entry). i.errand) o) has.here) its.there
        ∙ ap₂ (λ (a c : ℕ). let q : Sides = record { parts = record (parts p) { flow = with_errand e.number (record told_so { asked = a; requested = c }) f }; peers = with_pipe k (taken n its.peer.pipe) old.peers } in q) (text_few n few) stands.desk.turn.clock

    text_steps : (n : ℕ) → n ≤ length (take left its.peer.pipe.out) → ShowsSteps number name none_leaves (text_sides n).peers (text_sides n).parts (ask k n s)
    text_steps n few = record {
      shows = texts number name [] none_leaves (whole (parts p) old.peers) s stands.desk.turn.steps.shows n has.entry e its.peer j stands.desk.may.apart its.there is_next out (subst (λ (xs : Bytes). n ≤ length xs) text_same few);
      order = stands.desk.turn.steps.order;
      told = told_next number p.cache s.next_instance (ask k n s).next_instance (text_sides n).parts.flow (ap (λ (v : State). v.next_instance) (ask_rest k n s)) (told_asked number p.cache s.next_instance e.number (record told_so { asked = told_so.asked + n; requested = s.clock }) f stands.desk.turn.steps.told);
      refused = stands.desk.turn.steps.refused;
    }

    text_led : HasLedReady number x y s
    text_led = led (take left its.peer.pipe.out) text_same (text_asked k e.number p.now) text_of
        (λ n few is. asked_stays n (text_sides n) (is ∙ text_is n few) (text_steps n few) refl refl (piped_numbers k (taken n its.peer.pipe) old.peers) (λ i seat here. (seat, here, refl)) (λ i seat here going. (ready i seat here going).follows) (left_flow (parts p) (text_sides n).parts.flow))

  -- ---- of the body of its request

  module _ (out : is_outstanding e ≡ true) (m i : ℕ) (asker : e.asker ≡ Some m) (there : place_of m (numbers_of p.seats.items) ≡ Some i) where
    abbrev errand : Errand
    errand = has.entry.errand

    at : IsAt m i p.seats.items
    at = at_place m i p.seats.items stands.desk.turn.steps.order there

    sits : HasSeat i p.seats.items
    sits = has_seat m i p.seats.items at

    client_is : IsFound number name [] sits.seat m s.clients
    client_is = places number name [] p.seats.items s.clients m i sits.seat stands.desk.turn.steps.shows.clients at sits.there

    going : client_is.client.is_closing ≡ false
    going = let on : GoesOn client_is.client = stands.desk.may.go.going e.number e next.known m client_is.client asker client_is.there in on.going

    asks_body : asking_in k p.seats.items f ≡ Some (BodyLeft e.number errand.body_left i)
    asks_body =
        asks_what
        ∙ ap (λ (b : Bool). cond b (body_from e.number errand.body_left (seat_for has.entry.exchange p.seats.items)) (Some (TextLeft e.number (length has.entry.text.items - errand.asked)))) ((exchanges number has.entry e has.shows).outstanding ∙ out)
        ∙ ap (λ (o : Option ℕ). body_from e.number errand.body_left (option_and_then (λ (client : ℕ). place_of client (numbers_of p.seats.items)) o)) (has.shows.asker ∙ asker)
        ∙ ap (λ (o : Option ℕ). body_from e.number errand.body_left o) there

    abbrev bytes_of : Bytes
    bytes_of = take errand.body_left (body_in sits.seat.client.heard)

    body_of : IsAskedOf k bytes_of p.awake.items x.moving.links (body_asked e.number i) (sides old) (sides new) x.log y.log
    body_of =
        subst (λ (o : Option Seat). BodyIsAsked o k e.number errand.body_left i p.awake.items x.moving.links (sides old) (sides new) x.log y.log) sits.there
        (subst (λ (o : Option Asking). AsksBy o k p.now p.awake.items x.moving.links (sides old) (sides new) x.log y.log) asks_body asks.asks)

    body_same : bytes_of ≡ left_to_ask s e
    body_same =
        heard_is number name sits.seat client_is.client errand.body_left (client_is.shows.going going)
        ∙ ap (λ (n : ℕ). take (min n client_is.client.body_left) client_is.client.heard) has.shows.body_left
        ∙ ap (λ (o : Option Client). elim o as (λ c. Bytes) [ None ↦ [] | Some c ↦ take (min e.body_left c.body_left) c.heard ]) (sym (find_asker e m asker s.clients ∙ client_is.there))
        ∙ ap (λ (b : Bool). elim b as (λ c. Bytes) [ false ↦ drop e.asked e.text | true ↦ body_heard s e ]) (sym out)

    abbrev body_sides : ℕ → Sides
    body_sides n = record (sides old) { parts = record (parts p) { seats = slice_set p.seats.items i (body_sent n sits.seat); flow = with_errand e.number (record errand { body_left = errand.body_left - n }) f } }

    body_is : (n : ℕ) → body_asked e.number i n (sides old) ≡ body_sides n
    body_is n =
        ap₂ (λ (o : Option Seat) (u : Option Errand). record (sides old) { parts = record (parts p) { seats = elim o as (λ c. List Seat) [ None ↦ p.seats.items | Some seat ↦ slice_set p.seats.items i (body_sent n seat) ]; flow = errand_changed e.number (asked_of_body n) u f } }) sits.there
        (ap (λ (o : Option Entry). option_map (λ (j : Entry). j.errand) o) has.here)

    body_steps : (n : ℕ) → n ≤ length bytes_of → ShowsSteps number name none_leaves (body_sides n).peers (body_sides n).parts (ask k n s)
    body_steps n few = record {
      shows = bodies number name [] none_leaves (whole (parts p) old.peers) s stands.desk.turn.steps.shows m i n sits.seat has.entry e j is_next out asker at sits.there (less_still n (length bytes_of) (length (body_in sits.seat.client.heard)) few (take_less errand.body_left (body_in sits.seat.client.heard)));
      order = subst (λ (ns : List ℕ). AreInOrder ns) (sym (numbers_set i p.seats.items sits.seat (body_sent n sits.seat) sits.there refl)) stands.desk.turn.steps.order;
      told = told_next number p.cache s.next_instance (ask k n s).next_instance (body_sides n).parts.flow (ap (λ (v : State). v.next_instance) (ask_rest k n s)) (told_asked number p.cache s.next_instance e.number (record errand { body_left = errand.body_left - n }) f stands.desk.turn.steps.told);
      refused = stands.desk.turn.steps.refused;
    }

    body_silent : (n l : ℕ) (seat : Seat) → slice_get (slice_set p.seats.items i (body_sent n sits.seat)) l ≡ Some seat → (was : Seat) × (slice_get p.seats.items l ≡ Some was) × (is_silent seat ≡ is_silent was)
    body_silent n l seat here = by (i == l) refl
      where
        by : (b : Bool) → (i == l) ≡ b → (was : Seat) × (slice_get p.seats.items l ≡ Some was) × (is_silent seat ≡ is_silent was)
        by false off = (seat, sym (get_other i l p.seats.items (body_sent n sits.seat) off) ∙ here, refl)
        by true is =
            let one : body_sent n sits.seat ≡ seat = some_is (body_sent n sits.seat) seat (sym (get_set i p.seats.items sits.seat (body_sent n sits.seat) sits.there) ∙ ap (λ (q : ℕ). slice_get (slice_set p.seats.items i (body_sent n sits.seat)) q) (is_same i l is) ∙ here) in
            (sits.seat, ap (λ (q : ℕ). slice_get p.seats.items q) (sym (is_same i l is)) ∙ sits.there, ap (λ (o : Seat). is_silent o) (sym one))

    body_follows : (n l : ℕ) (seat : Seat) → slice_get (slice_set p.seats.items i (body_sent n sits.seat)) l ≡ Some seat → seat.is_closing ≡ false → IsFollowing p.cache seat
    body_follows n l seat here on = by (i == l) refl
      where
        by : (b : Bool) → (i == l) ≡ b → IsFollowing p.cache seat
        by false off = (ready l seat (sym (get_other i l p.seats.items (body_sent n sits.seat) off) ∙ here) on).follows
        by true is =
            let one : body_sent n sits.seat ≡ seat = some_is (body_sent n sits.seat) seat (sym (get_set i p.seats.items sits.seat (body_sent n sits.seat) sits.there) ∙ ap (λ (q : ℕ). slice_get (slice_set p.seats.items i (body_sent n sits.seat)) q) (is_same i l is) ∙ here) in
            subst (λ (o : Seat). IsFollowing p.cache o) one (λ a id answer source. (ready i sits.seat sits.there (ap (λ (o : Seat). o.is_closing) one ∙ on)).follows a id answer source)

    body_left_so : (n : ℕ) → AreLeft (parts p) (body_sides n).parts
    body_left_so n = record { was = λ l seat here. set_left i p.seats.items sits.seat (body_sent n sits.seat) sits.there (record { going = λ on. on; joins = λ id plain is. is }) l seat here; lives = refl; there = λ id is. is }

    body_led : HasLedReady number x y s
    body_led = led bytes_of body_same (body_asked e.number i) body_of
        (λ n few is. asked_stays n (body_sides n) (is ∙ body_is n) (body_steps n few) (numbers_set i p.seats.items sits.seat (body_sent n sits.seat) sits.there refl) refl refl (λ l seat here. body_silent n l seat here) (λ l seat here on. body_follows n l seat here on) (body_left_so n))

  -- ---- either

  nobody_heard : is_outstanding e ≡ true → find (is_for e) s.clients ≡ None → HasLedReady number x y s
  nobody_heard out none =
      absurd
      (let both : true ≡ false =
      sym
      (ap (λ (b : Bool). is_empty (elim b as (λ c. Bytes) [ false ↦ drop e.asked e.text | true ↦ body_heard s e ])) out
      ∙ ap (λ (o : Option Client). is_empty (elim o as (λ c. Bytes) [ None ↦ [] | Some c ↦ take (min e.body_left c.body_left) c.heard ])) none)
      ∙ may.some in
      cc both)

  by_place : is_outstanding e ≡ true → (m : ℕ) → e.asker ≡ Some m → (o : Option ℕ) → place_of m (numbers_of p.seats.items) ≡ o → HasLedReady number x y s
  by_place out m asker None none = nobody_heard out (find_asker e m asker s.clients ∙ none_client number name m p.seats.items s.clients stands.desk.turn.steps.shows.clients (no_place m p.seats.items none))
  by_place out m asker (Some i) there = body_led out m i asker there

  by_asker : is_outstanding e ≡ true → (o : Option ℕ) → e.asker ≡ o → HasLedReady number x y s
  by_asker out None none = nobody_heard out (find_nobody e none s.clients)
  by_asker out (Some m) asker = by_place out m asker (place_of m (numbers_of p.seats.items)) refl

  by_kind : (b : Bool) → is_outstanding e ≡ b → HasLedReady number x y s
  by_kind false out = text_led out
  by_kind true out = by_asker out e.asker refl

  all_led : HasLedReady number x y s
  all_led = by_kind (is_outstanding e) refl

pub askings : AskingsLead
askings terms log number k x y s j e obeys stands ready may bounded asks =
    subst (λ (n : ℕ). StandsAtEvent number Handling (WriteTo n) x.moving s → MayAsk n x s j e → AsksOn n x y → HasLedReady number x y s) (is_same j.number k (find_passes (is_conn k) s.conns j may.there)) (λ stand may_ask asks_on. all_led terms log number x y s j e obeys stand ready may_ask bounded asks_on) stands may asks
