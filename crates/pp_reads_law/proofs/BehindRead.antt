-- Behind what came of an origin replies that are over end, and the turn stands behind them: the event is handled.
use Rattle.std.proofs.Common.{◌≡◌, ◌<◌, refl, sym, subst, ap, ◌∙◌, ℕ, Bool, false, ◌&&◌, not, length, map, List, Some}
use Rattle.std.specs.Prelude.{slice_get}
use Rattle.pp_cache.specs.Bounds.{IsBounded}
use Rattle.pp_cache_law.proofs.Numbers.{some_is}
use Rattle.pp_turns_law.specs.Sides.{ShowsSides}
use Rattle.pp_turns_law.specs.Useless.{AllFollow}
use Rattle.pp_desk.specs.Closings.{Sides, peer_numbers, sides}
use Rattle.pp_desk.specs.Replies.{EndsReplies}
use Rattle.pp_desk.specs.declared.desk.Desk.{Desk}
use Rattle.pp_endings_law.proofs.Ended.{all_end}
use Rattle.pp_endings_law.proofs.Walk.{as_many}
use Rattle.pp_endings_law.specs.Replies.{AllMayEnd, AreLookedAt, HasEnded, MayLeave}
use Rattle.pp_events_law.proofs.Beside.{AreBeside, replies_beside}
use Rattle.pp_events_law.proofs.Gone.{IsSoundAmid}
use Rattle.pp_events_law.proofs.Left.{AreLeft, WasLeft, replies_left}
use Rattle.pp_events_law.proofs.Sourced.{follow_of}
use Rattle.pp_events_law.proofs.Standing.{HasWords, may_as, open_as, steps_as, turn_by}
use Rattle.pp_events_law.specs.Hears.{AreSettled}
use Rattle.pp_events_law.specs.Ready.{StaysReady}
use Rattle.pp_events_law.specs.Stands.{AreReadyAt, IsHandled, StandsAtEvent}
use Rattle.pp_flow_law.specs.Tables.{AreGiven, none_leaves}
use Rattle.pp_law.specs.After.{paid}
use Rattle.pp_law.specs.Lists.{Bytes, has_number}
use Rattle.pp_law.specs.Replies.{end_replies, regained}
use Rattle.pp_law.specs.State.{State, Owed, Handling, Free}
use Rattle.pp_laws.proofs.Sound.{client_number}
use Rattle.pp_laws.specs.Numbers.{AreRising}
use Rattle.pp_laws_replies.proofs.Quiet.{FactsOf}
use Rattle.pp_objects.specs.declared.id.ObjectId.{ObjectId}
use Rattle.pp_obeys.proofs.Frames.{Frame, frame}
use Rattle.pp_proxy.specs.Moving.{Turning}
use Rattle.pp_seats.specs.Heads.{is_there_in}
use Rattle.pp_seats.specs.Seats.{is_silent, is_undecided_in}
use Rattle.pp_seats.specs.declared.front.Front.{Front}
use Rattle.pp_seats.specs.declared.seat.Seat.{Seat}
use Rattle.pp_seats.specs.declared.seat.Stage.{Stage}
use Rattle.pp_state.specs.Ends.{numbers_of, parts}
use Rattle.pp_state.specs.declared.state.State.{State as Turn}
use Rattle.pp_states_law.specs.Steps.{ShowsSteps}
use Rattle.pp_states_law.specs.Told.{IsTold}
use Rattle.pp_turns_law.specs.Firsts.{AreAwake, IsAsleep}
use Rattle.pp_reads_law.proofs.Passed.{all_may_end}
use Rattle.pp_reads_law.specs.Goes.{AllGoOn}
use Rattle.pp_reads_law.specs.Stays.{AreStill, IsStill, KnowsAsMuch, WasStill}
use Rattle.pp_reads_law.specs.Told.{StaysTold}

silent_still : (seat new : Seat) → IsStill seat new → is_silent new ≡ is_silent seat
silent_still seat new is =
    ap (λ (t : Stage). is_undecided_in t && not (is_there_in new.front) && not new.has_hung_up && not new.is_closing) is.stage
    ∙ ap (λ (f : Front). is_undecided_in seat.stage && not (is_there_in f) && not new.has_hung_up && not new.is_closing) is.front
    ∙ ap (λ (b : Bool). is_undecided_in seat.stage && not (is_there_in seat.front) && not b && not new.is_closing) is.hung_up
    ∙ ap (λ (b : Bool). is_undecided_in seat.stage && not (is_there_in seat.front) && not seat.has_hung_up && not b) is.closing

-- what stands amid it: both sides, where clients stay, and the law says no word of their replies
pub record StandsAmid (number0 number : ℕ → ℕ) (x y : Turning) (s v : State) (z : Sides) : Type 0 where
  pub shown : ShowsSides number x.moving.desk.state.name.items z v
  pub still : AreStill x.moving.desk.state.seats.items z.parts.seats
  pub conns : peer_numbers z.peers ≡ peer_numbers x.moving.desk.peers
  pub framed : frame false v ≡ frame false s
  pub quiet : FactsOf s v
  pub amid : IsSoundAmid v
  pub follow : AllFollow z.parts v
  pub knows : KnowsAsMuch x.moving.desk.state y.moving.desk.state
  pub ends : EndsReplies x.moving.desk.state.awake.items z (sides y.moving.desk)
  pub numbers : numbers_of y.moving.desk.state.seats.items ≡ numbers_of x.moving.desk.state.seats.items
  pub links : y.moving.links ≡ x.moving.links
  pub top : y.moving.top ≡ x.moving.top

module _ (number0 number : ℕ → ℕ) (owed : Owed) (x y : Turning) (s v : State) (z : Sides) (stands : StandsAtEvent number0 Handling owed x.moving s) (settled : AreSettled x.moving.desk.state.seats.items) (next : AllGoOn s) (rise : AreRising (map client_number s.clients)) (has : StandsAmid number0 number x y s v z)
    (bounded : IsBounded y.moving.desk.state.cache) where
  abbrev old : Desk
  old = x.moving.desk

  abbrev new : Desk
  new = y.moving.desk

  abbrev p : Turn
  p = old.state

  abbrev name : Bytes
  name = p.name.items

  abbrev u : State
  u = record (end_replies v) { owed = Free }

  abbrev awake : List ℕ
  awake = p.awake.items

  long_as : length z.parts.seats ≡ length p.seats.items
  long_as = sym (as_many z.parts.seats) ∙ ap (λ (ns : List ℕ). length ns) has.still.numbers ∙ as_many p.seats.items

  looked_at : AreLookedAt awake z.parts.seats
  looked_at = record {
    order = subst (λ (n : ℕ). AreGiven 0 n awake) (sym long_as) stands.awake.order;
    others = λ i seat here out. let was : WasStill p.seats.items i seat = has.still.was i seat here in silent_still was.old seat was.is ∙ (stands.awake.others i was.old was.here out).silent;
  }

  may_leave : MayLeave z v
  may_leave = record { follow = has.follow; once = has.amid.once; rests = has.amid.rests }

  all_may : AllMayEnd z v
  all_may =
      all_may_end number0 number name (parts p) z.parts s v stands.desk.turn.steps.shows.clients has.shown.steps.shows.clients stands.desk.turn.steps.order has.shown.steps.order rise has.quiet has.still
      (λ i seat here going. (settled i seat here).said going) next

  pub has_ended : HasEnded number name (sides new) v (end_replies v)
  has_ended = all_end number name z v has.shown awake (sides new) looked_at may_leave all_may has.ends

  -- all that is no part of it
  stays : {A : Type 0} (f : State → A) (g : Frame → A) → f (record v { clients = (end_replies v).clients; conns = (end_replies v).conns; exchanges = (end_replies v).exchanges; instances = (end_replies v).instances; chunks = (end_replies v).chunks }) ≡ g (frame false v) → g (frame false s) ≡ f s
      → f (end_replies v) ≡ f s
  stays f g one two = ap f has_ended.rest ∙ one ∙ ap g has.framed ∙ two

  same_name : new.state.name.items ≡ name
  same_name = has.knows.name

  words : HasWords new.state u
  words = record {
    name = same_name ∙ stands.desk.turn.name ∙ sym (stays (λ t. t.settings.name) (λ f. f.settings.name) refl refl);
    shares = has.knows.shares ∙ stands.desk.turn.shares ∙ sym (stays (λ t. t.settings.shares_fetches) (λ f. f.settings.shares_fetches) refl refl);
    clock = has.knows.clock ∙ stands.desk.turn.clock ∙ sym (stays (λ t. t.clock) (λ f. f.clock) refl refl);
    ticked = has.knows.ticked ∙ stands.desk.turn.ticked ∙ sym (stays (λ t. t.is_ticked) (λ f. f.is_ticked) refl refl);
    stopped = has.knows.stopped ∙ stands.desk.turn.stopped ∙ sym (stays (λ t. t.is_stopped) (λ f. f.is_stopped) refl refl);
  }

  beside : AreBeside awake z (sides new)
  beside = replies_beside awake z (sides new) has.ends

  as_many_now : length new.state.seats.items ≡ length p.seats.items
  as_many_now = sym (as_many new.state.seats.items) ∙ ap (λ (ns : List ℕ). length ns) has.numbers ∙ as_many p.seats.items

  awake_behind : AreAwake new.state
  awake_behind = record {
    order = subst (λ (ns : List ℕ). AreGiven 0 (length new.state.seats.items) ns) (sym has.knows.awake) (subst (λ (n : ℕ). AreGiven 0 n awake) (sym as_many_now) stands.awake.order);
    others = λ i seat here out.
        let none_here : has_number i awake ≡ false = ap (λ (ns : List ℕ). has_number i ns) (sym has.knows.awake) ∙ out in
        let there : slice_get z.parts.seats i ≡ Some seat = sym (beside.others i none_here) ∙ here in
        let was : WasStill p.seats.items i seat = has.still.was i seat there in
        let one : IsAsleep p was.old = stands.awake.others i was.old was.here none_here in
        record { silent = looked_at.others i seat there none_here; ticked = has.knows.ticked ∙ one.ticked };
  }

  behind_stands : StandsAtEvent number Handling Free y.moving u
  behind_stands = record {
    law = record { at = stays (λ t. t.phase) (λ f. f.phase) refl refl ∙ stands.law.at; owes = refl; none = stays (λ t. t.made_room_for) (λ f. f.made_room_for) refl refl ∙ stands.law.none };
    desk = record {
      turn = turn_by number new.peers new.state u words bounded
          (subst (λ (text : Bytes). ShowsSteps number text none_leaves new.peers (parts new.state) u) (sym same_name)
          (steps_as number name new.peers (parts new.state) (end_replies v) u (record { clients = refl; conns = refl; exchanges = refl; next_exchange = refl; instances = refl; next_instance = refl; chunks = refl; kept = λ i. refl }) has_ended.shows.steps));
      may = may_as (end_replies v) u refl refl refl has_ended.shows.may;
    };
    ticked = has.knows.was_ticked ∙ stands.ticked ∙ sym (stays (λ t. t.has_ticked) (λ f. f.has_ticked) refl refl);
    awake = awake_behind;
    opened = open_as x.moving y.moving s.top u.top has.numbers (beside.peers ∙ has.conns) has.links has.top (stays (λ t. t.top) (λ f. f.top) refl refl) stands.opened;
  }

  pub behind_handled : IsHandled number y.moving (paid (end_replies v))
  unfolding paid
  behind_handled = record { handled = u; anew = refl; stands = behind_stands; follows = follow_of number name new.peers (parts new.state) (end_replies v) has_ended.shows.steps has_ended.may.follow }

  pub behind_is : behind_handled.handled ≡ record (end_replies v) { owed = Free }
  unfolding behind_handled
  behind_is = refl

  left : AreLeft z.parts (parts new.state)
  left = replies_left awake z (sides new) has.ends

  next_same : (paid (end_replies v)).next_instance ≡ v.next_instance
  unfolding paid regained
  next_same = ap (λ (t : State). t.next_instance) has_ended.rest

  -- what an exchange joined that is told amid it
  told_behind : (id : ObjectId) → IsTold number z.parts.cache v.next_instance id → IsTold number new.state.cache (paid (end_replies v)).next_instance id
  told_behind id told = record {
    given = subst (λ (n : ℕ). id.life < n) (sym left.lives) told.given;
    made = subst (λ (n : ℕ). number id.life < n) (sym next_same) told.made;
    apart = λ other there. told.apart other (left.there other there);
  }

  pub behind_ready : AreReadyAt number0 x.moving s → StaysTold number0 (parts p) s number z.parts v → StaysReady number x y (paid (end_replies v))
  behind_ready ready told given i seat at going =
      let amid : WasLeft z.parts.seats i seat = left.was i seat at in
      let was : WasStill p.seats.items i amid.old = has.still.was i amid.old amid.here in
      let before : was.old.is_closing ≡ false = sym was.is.closing ∙ amid.is.going going in
      record {
        follows = behind_handled.follows i seat at going;
        key = λ refused. (ready i was.old was.here before).key (given i was.old seat was.here at going refused);
        joined = λ id plain joins.
            told_behind id
            (told i (λ old one b here is. (ready i old here (ap (λ (o : Seat). o.is_closing) (some_is old was.old (sym here ∙ was.here)) ∙ before)).joined one b is) amid.old id plain amid.here (amid.is.joins id plain joins));
      }
