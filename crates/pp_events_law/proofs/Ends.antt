-- Behind what one client brought replies that are over end, and the turn stands behind them: the event is handled.
use Rattle.std.proofs.Common.{◌≡◌, ◌<◌, ◌≤◌, inl, inr, refl, sym, subst, ap, ◌∙◌, ℕ, Bool, true, false, ◌==◌, ◌||◌, cond, find, length, nat_lt, List, [], ◌∷◌, Some, arith}
use Rattle.std.proofs.lemmas.Bool.Decides.{nat_tests}
use Rattle.std.proofs.lemmas.Option.{slice_get_within}
use Rattle.std.specs.Prelude.{count_by, slice_get, slice_set, vec_capacity}
use Rattle.std.proofs.lemmas.List.{length-set}
use Rattle.pp_cache.specs.Bounds.{IsBounded}
use Rattle.pp_cache.specs.Memory.{Memory}
use Rattle.pp_cache_law.proofs.Numbers.{is_same, some_is}
use Rattle.pp_client.specs.Replies.{Reply, is_said}
use Rattle.pp_turns_law.specs.Sides.{MayClose, ShowsSides}
use Rattle.pp_turns_law.proofs.Changed.{get_set}
use Rattle.pp_turns_law.proofs.Regained.{get_other}
use Rattle.pp_turns_law.proofs.Sitting.{is_at, shown_at}
use Rattle.pp_turns_law.specs.Decides.{IsAtPlace}
use Rattle.pp_desk.specs.Closings.{KeepsDesk, Sides, peer_numbers, sides}
use Rattle.pp_desk.specs.Replies.{EndsReplies}
use Rattle.pp_desk.specs.declared.desk.Desk.{Desk}
use Rattle.pp_endings_law.proofs.Ended.{all_end}
use Rattle.pp_endings_law.proofs.Walk.{as_many}
use Rattle.pp_endings_law.specs.Replies.{AllMayEnd, AreLookedAt, HasEnded, MayLeave}
use Rattle.pp_flow_law.specs.Tables.{AreGiven, none_leaves}
use Rattle.pp_law.specs.After.{paid}
use Rattle.pp_law.specs.Closing.{is_of}
use Rattle.pp_law.specs.Connections.{is_exchange}
use Rattle.pp_law.specs.Lists.{Bytes, has_number}
use Rattle.pp_law.specs.Replies.{end_replies, regained}
use Rattle.pp_law.specs.State.{State, Client, Exchange, Owed, Handling, Free}
use Rattle.pp_laws.specs.Runs.{IsIn}
use Rattle.pp_laws_turn.specs.SoundTurn.{IsSoundTurn}
use Rattle.pp_objects.specs.Instances.{is_there}
use Rattle.pp_proxy.specs.Handling.{Rouses}
use Rattle.pp_proxy.specs.Moving.{Turning}
use Rattle.pp_seats.specs.Follows.{answer_in}
use Rattle.pp_seats.specs.declared.seat.Seat.{Seat}
use Rattle.pp_seats.specs.declared.seat.Stage.{Stage}
use Rattle.pp_seats_law.specs.Seats.{ShowsSeat}
use Rattle.pp_state.specs.Ends.{Parts, numbers_of, parts}
use Rattle.pp_state.specs.Numbers.{with_number}
use Rattle.pp_state.specs.declared.state.State.{State as Turn}
use Rattle.pp_states_law.specs.Steps.{ShowsSteps}
use Rattle.pp_turns_law.proofs.Looked.{awake_loud, roused}
use Rattle.pp_turns_law.specs.Firsts.{AreAwake}
use Rattle.pp_turns_law.specs.Marks.{AreLoud}
use Rattle.pp_turns_law.specs.Turns.{IsFollowing}
use Rattle.pp_events_law.proofs.Beside.{AreBeside, replies_beside}
use Rattle.pp_events_law.proofs.Heard.{IsSameReply}
use Rattle.pp_events_law.proofs.Left.{AreLeft, IsLeft, left_then, replies_left, set_left}
use Rattle.pp_events_law.proofs.Newcomer.{rising}
use Rattle.pp_events_law.proofs.ReadyBehind.{ready_behind}
use Rattle.pp_events_law.proofs.Sourced.{follow_of}
use Rattle.pp_events_law.proofs.Standing.{HasWords, may_as, open_as, steps_as, turn_by}
use Rattle.pp_events_law.specs.Hears.{AreSettled}
use Rattle.pp_events_law.specs.Ready.{StaysReady}
use Rattle.pp_events_law.specs.Stands.{AreReadyAt, IsHandled, StandsAtEvent}

-- ---- lists

pub has_with : (i : ℕ) (ms : List ℕ) → has_number i (with_number i ms) ≡ true
has_with i [] = ap (λ (b : Bool). b || false) (same i)
  where
    same : (n : ℕ) → (n == n) ≡ true
    same n = grind (arith, nat_tests)
has_with i (m ∷ ms) = by (nat_lt i m) (m == i) refl (has_with i ms)
  where
    same : (n : ℕ) → (n == n) ≡ true
    same n = grind (arith, nat_tests)

    last : (b : Bool) → (b || true) ≡ true
    last true = refl
    last false = refl

    by : (a b : Bool) → (m == i) ≡ b → has_number i (with_number i ms) ≡ true → has_number i (cond a (i ∷ m ∷ ms) (cond b (m ∷ ms) (m ∷ with_number i ms))) ≡ true
    by true b is rest = ap (λ (c : Bool). c || has_number i (m ∷ ms)) (same i)
    by false true is rest = ap (λ (c : Bool). c || has_number i ms) is
    by false false is rest = ap (λ (c : Bool). (m == i) || c) rest ∙ last (m == i)

apart_from : (i j : ℕ) (ms : List ℕ) → has_number i ms ≡ true → has_number j ms ≡ false → (i == j) ≡ false
apart_from i j ms has none = by (i == j) refl
  where
    by : (b : Bool) → (i == j) ≡ b → b ≡ false
    by false is = refl
    by true is = absurd (let both : true ≡ false = sym has ∙ ap (λ (k : ℕ). has_number k ms) (is_same i j is) ∙ none in cc both)

pub in_exchanges : (n : ℕ) (es : List Exchange) (e : Exchange) → find (is_exchange n) es ≡ Some e → IsIn e es
in_exchanges n [] e found = absurd (cc found)
in_exchanges n (d ∷ es) e found = by (is_exchange n d) found (λ rest. in_exchanges n es e rest)
  where
    by : (b : Bool) → cond b (Some d) (find (is_exchange n) es) ≡ Some e → (find (is_exchange n) es ≡ Some e → IsIn e es) → IsIn e (d ∷ es)
    by true is rest = inl (sym (some_is d e is))
    by false is rest = inr (rest is)

-- ---- the client at a place was looked at, and brought this

module _ (number : ℕ → ℕ) (i : ℕ) (x y : Turning) (seat : Seat) (owed : Owed) (s : State) (stands : StandsAtEvent number Handling owed x.moving s) (ready : AreReadyAt number x.moving s) (sound : IsSoundTurn s) (here : slice_get x.moving.desk.state.seats.items i ≡ Some seat) (still : x.moving.desk.state.is_ticked ≡ false)
    (settled : AreSettled x.moving.desk.state.seats.items) (looked : Desk) (rouses : Rouses i x.moving.desk looked) (looks : length x.moving.desk.state.awake.items < vec_capacity x.moving.desk.state.awake) where
  abbrev old : Desk
  old = x.moving.desk

  abbrev p : Turn
  p = old.state

  abbrev name : Bytes
  name = p.name.items

  awake_is : looked.state.awake.items ≡ with_number i p.awake.items
  awake_is = rouses.awake (rising p.awake.items 0 (length p.seats.items) stands.awake.order) looks

  pub loud : AreLoud looked.state
  loud = roused p looked.state i (awake_loud p stands.awake) (slice_get_within p.seats.items i seat here) awake_is (ap (λ (d : Desk). d.state) rouses.rest)

  pub same_sides : sides looked ≡ sides old
  same_sides = ap (λ (d : Desk). sides d) rouses.rest

  its_awake : has_number i looked.state.awake.items ≡ true
  its_awake = ap (λ (ns : List ℕ). has_number i ns) awake_is ∙ has_with i p.awake.items

  module _ (astray : Bool) (new : Seat) (m : State) (steps : ShowsSteps number name none_leaves old.peers (record (parts p) { seats = slice_set p.seats.items i new; is_astray = astray }) m) (may : MayClose m) (like : IsSameReply seat new) (rest : m ≡ record s { clients = m.clients }) (next : Sides)
      (next_is : next ≡ record (sides old) { parts = record (parts p) { seats = slice_set p.seats.items i new; is_astray = astray } }) (ends : EndsReplies looked.state.awake.items next (sides y.moving.desk)) (numbers : numbers_of y.moving.desk.state.seats.items ≡ numbers_of p.seats.items) (keeps : KeepsDesk looked (record y.moving.desk { buffer = looked.buffer }))
      (links : y.moving.links ≡ x.moving.links) (top : y.moving.top ≡ x.moving.top) (bounded : IsBounded y.moving.desk.state.cache) where
    abbrev seats : List Seat
    seats = slice_set p.seats.items i new

    abbrev u : State
    u = record (end_replies m) { owed = Free }

    abbrev behind : Desk
    behind = y.moving.desk

    -- each that is there was there, with the same reply
    record WasSo (j : ℕ) (other : Seat) : Type 0 where
      before : Seat
      was : slice_get p.seats.items j ≡ Some before
      stage : other.stage ≡ before.stage
      reply : other.client.reply ≡ before.client.reply
      closing : other.is_closing ≡ before.is_closing

    was_so : (j : ℕ) (other : Seat) → slice_get seats j ≡ Some other → WasSo j other
    was_so j other at = by (i == j) refl
      where
        by : (b : Bool) → (i == j) ≡ b → WasSo j other
        by false off = record { before = other; was = sym (get_other i j p.seats.items new off) ∙ at; stage = refl; reply = refl; closing = refl }
        by true same =
            let one : new ≡ other = some_is new other (sym (get_set i p.seats.items seat new here) ∙ ap (λ (k : ℕ). slice_get seats k) (is_same i j same) ∙ at) in
            record {
              before = seat;
              was = ap (λ (k : ℕ). slice_get p.seats.items k) (sym (is_same i j same)) ∙ here;
              stage = ap (λ (o : Seat). o.stage) (sym one) ∙ like.stage;
              reply = ap (λ (o : Seat). o.client.reply) (sym one) ∙ like.reply;
              closing = ap (λ (o : Seat). o.is_closing) (sym one) ∙ like.closing;
            }

    seats_are : next.parts.seats ≡ seats
    seats_are = ap (λ (z : Sides). z.parts.seats) next_is

    shows : ShowsSides number name next m
    shows = record { steps = subst (λ (z : Sides). ShowsSteps number name none_leaves z.peers z.parts m) (sym next_is) steps; may = may }

    looked_at : AreLookedAt looked.state.awake.items next.parts.seats
    looked_at = record {
      order = subst (λ (n : ℕ). AreGiven 0 n looked.state.awake.items) (ap (λ (z : Sides). length z.parts.seats) same_sides ∙ sym (length-set p.seats.items i new) ∙ ap (λ (ss : List Seat). length ss) (sym seats_are)) loud.order;
      others = λ j other at none.
          loud.others j other (ap (λ (z : Sides). slice_get z.parts.seats j) same_sides ∙ sym (get_other i j p.seats.items new (apart_from i j looked.state.awake.items its_awake none)) ∙ ap (λ (ss : List Seat). slice_get ss j) (sym seats_are) ∙ at) none;
    }

    -- a client of the law goes on where its seat does
    goes_on : (j : ℕ) (other : Seat) (c : Client) → IsAtPlace j next.parts m other c → c.is_closing ≡ false → WasSo j other × (other.is_closing ≡ false)
    goes_on j other c place going =
        let shown : ShowsSeat number name [] other c = shown_at number name [] next.parts.seats m.clients other.client.id j other c shows.steps.shows.clients (is_at j next.parts.seats other shows.steps.order place.here) place.here place.there in
        (was_so j other (ap (λ (ss : List Seat). slice_get ss j) (sym seats_are) ∙ place.here), shown.closing ∙ going)

    follows : (j : ℕ) (other : Seat) (c : Client) → IsAtPlace j next.parts m other c → c.is_closing ≡ false → IsFollowing next.parts.cache other
    follows j other c place going a id answer source =
        let was : WasSo j other × (other.is_closing ≡ false) = goes_on j other c place going in
        subst (λ (k : Memory). is_there id k.instances ≡ true) (sym (ap (λ (z : Sides). z.parts.cache) next_is))
        ((ready j was.0.before was.0.was (sym was.0.closing ∙ was.1)).follows a id (sym (ap (λ (t : Stage). answer_in t) was.0.stage) ∙ answer) source)

    same_exchanges : m.exchanges ≡ s.exchanges
    same_exchanges = ap (λ (t : State). t.exchanges) rest

    may_leave : MayLeave next m
    may_leave = record {
      follow = follows;
      once = λ n. subst (λ (es : List Exchange). count_by (is_of n) es ≤ 1) (sym same_exchanges) (sound.once n);
      rests = λ n e there none. sound.rests e (in_exchanges n s.exchanges e (sym (ap (λ (es : List Exchange). find (is_exchange n) es) same_exchanges) ∙ there)) none;
    }

    all_may : AllMayEnd next m
    all_may j other c place going all =
        let was : WasSo j other × (other.is_closing ≡ false) = goes_on j other c place going in
        absurd (let both : true ≡ false = sym all ∙ ap (λ (r : Reply). is_said r) was.0.reply ∙ (settled j was.0.before was.0.was).said (sym was.0.closing ∙ was.1) in cc both)

    ended : HasEnded number name (sides behind) m (end_replies m)
    ended = all_end number name next m shows looked.state.awake.items (sides behind) looked_at may_leave all_may ends

    -- all that is no part of it
    stays : {A : Type 0} (f : State → A) → f (record m { clients = (end_replies m).clients; conns = (end_replies m).conns; exchanges = (end_replies m).exchanges; instances = (end_replies m).instances; chunks = (end_replies m).chunks }) ≡ f m → f (record s { clients = m.clients }) ≡ f s → f (end_replies m) ≡ f s
    stays f one two = ap f ended.rest ∙ one ∙ ap f rest ∙ two

    same_name : behind.state.name.items ≡ name
    same_name = ap (λ (d : Desk). d.state.name.items) keeps ∙ ap (λ (d : Desk). d.state.name.items) rouses.rest

    words : HasWords behind.state u
    words = record {
      name = same_name ∙ stands.desk.turn.name ∙ sym (stays (λ t. t.settings.name) refl refl);
      shares = ap (λ (d : Desk). d.state.shares_fetches) keeps ∙ ap (λ (d : Desk). d.state.shares_fetches) rouses.rest ∙ stands.desk.turn.shares ∙ sym (stays (λ t. t.settings.shares_fetches) refl refl);
      clock = ap (λ (d : Desk). d.state.now) keeps ∙ ap (λ (d : Desk). d.state.now) rouses.rest ∙ stands.desk.turn.clock ∙ sym (stays (λ t. t.clock) refl refl);
      ticked = ap (λ (d : Desk). d.state.is_ticked) keeps ∙ ap (λ (d : Desk). d.state.is_ticked) rouses.rest ∙ stands.desk.turn.ticked ∙ sym (stays (λ t. t.is_ticked) refl refl);
      stopped = ap (λ (d : Desk). d.state.is_stopped) keeps ∙ ap (λ (d : Desk). d.state.is_stopped) rouses.rest ∙ stands.desk.turn.stopped ∙ sym (stays (λ t. t.is_stopped) refl refl);
    }

    beside : AreBeside looked.state.awake.items next (sides behind)
    beside = replies_beside looked.state.awake.items next (sides behind) ends

    as_long : length behind.state.seats.items ≡ length p.seats.items
    as_long = sym (as_many behind.state.seats.items) ∙ ap (λ (ns : List ℕ). length ns) numbers ∙ as_many p.seats.items

    same_awake : behind.state.awake.items ≡ looked.state.awake.items
    same_awake = ap (λ (d : Desk). d.state.awake.items) keeps

    awake_behind : AreAwake behind.state
    awake_behind = record {
      order = subst (λ (ns : List ℕ). AreGiven 0 (length behind.state.seats.items) ns) (sym same_awake) (subst (λ (n : ℕ). AreGiven 0 n looked.state.awake.items) (ap (λ (z : Sides). length z.parts.seats) same_sides ∙ sym as_long) loud.order);
      others = λ j other at out.
          let none : has_number j looked.state.awake.items ≡ false = ap (λ (ns : List ℕ). has_number j ns) (sym same_awake) ∙ out in record {
            silent = looked_at.others j other (sym (beside.others j none) ∙ at) none;
            ticked = ap (λ (d : Desk). d.state.is_ticked) keeps ∙ ap (λ (d : Desk). d.state.is_ticked) rouses.rest ∙ still;
          };
    }

    end_stands : StandsAtEvent number Handling Free y.moving u
    end_stands = record {
      law = record { at = stays (λ t. t.phase) refl refl ∙ stands.law.at; owes = refl; none = stays (λ t. t.made_room_for) refl refl ∙ stands.law.none };
      desk = record {
        turn = turn_by number behind.peers behind.state u words bounded
            (subst (λ (text : Bytes). ShowsSteps number text none_leaves behind.peers (parts behind.state) u) (sym same_name)
            (steps_as number name behind.peers (parts behind.state) (end_replies m) u
            (record { clients = refl; conns = refl; exchanges = refl; next_exchange = refl; instances = refl; next_instance = refl; chunks = refl; kept = λ k. refl }) ended.shows.steps));
        may = may_as (end_replies m) u refl refl refl ended.shows.may;
      };
      ticked = ap (λ (d : Desk). d.state.has_ticked) keeps ∙ ap (λ (d : Desk). d.state.has_ticked) rouses.rest ∙ stands.ticked ∙ sym (stays (λ t. t.has_ticked) refl refl);
      awake = awake_behind;
      opened = open_as x.moving y.moving s.top u.top numbers (beside.peers ∙ ap (λ (z : Sides). peer_numbers z.peers) next_is) links top (stays (λ t. t.top) refl refl) stands.opened;
    }

    pub end_handled : IsHandled number y.moving (paid (end_replies m))
    unfolding paid
    end_handled = record { handled = u; anew = refl; stands = end_stands; follows = follow_of number name behind.peers (parts behind.state) (end_replies m) ended.shows.steps ended.may.follow }

    all_left : IsLeft seat new → AreLeft (parts p) (parts behind.state)
    all_left left =
        let changed : Parts = record (parts p) { seats = seats; is_astray = astray } in
        left_then (parts p) changed (parts behind.state) (record { was = λ j other at. set_left i p.seats.items seat new here left j other at; lives = refl; there = λ id is. is })
        (subst (λ (z : Sides). AreLeft z.parts (parts behind.state)) next_is (replies_left looked.state.awake.items next (sides behind) ends))

    pub end_ready : IsLeft seat new → StaysReady number x y (paid (end_replies m))
    unfolding paid regained
    end_ready left = ready_behind number x y s (paid (end_replies m)) (stays (λ t. t.next_instance) refl refl) (all_left left) end_handled.follows ready
