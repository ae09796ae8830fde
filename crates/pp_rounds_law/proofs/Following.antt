-- Where nothing is due, the law goes on without a word: what nobody sees is dropped, asks that bring nothing are given up, and followers ask.
use Rattle.std.proofs.Common.{◌≡◌, ◌≤◌, refl, sym, subst, ap, ◌∙◌, ℕ, true, false, not, length, List, [], ◌++◌, append-nil, Option, None, arith}
use Rattle.std.specs.Prelude.{is_some, vec_capacity}
use Rattle.pp_cache.specs.Bounds.{IsBounded}
use Rattle.pp_cache.specs.Memory.{Memory}
use Rattle.pp_turns_law.proofs.AllSeen.{all_drop}
use Rattle.pp_turns_law.specs.Log.{AreLinked}
use Rattle.pp_turns_law.specs.Sides.{MayClose, ShowsSides}
use Rattle.pp_turns_law.specs.Unread.{Tells}
use Rattle.pp_turns_law.proofs.All.{fills_all}
use Rattle.pp_turns_law.proofs.GivenUp.{gives_up, waiting_in_order}
use Rattle.pp_turns_law.proofs.Sitting.{is_at, shown_at}
use Rattle.pp_turns_law.specs.Decides.{IsAtPlace}
use Rattle.pp_turns_law.specs.Fills.{HasRoomForAll, IsFilled, MayAllFill}
use Rattle.pp_deciding_law.proofs.Framed.{steps_in}
use Rattle.pp_desk.specs.Closings.{Sides, peer_numbers, sides, with_parts}
use Rattle.pp_desk.specs.Origins.{without_unseen}
use Rattle.pp_desk.specs.declared.desk.Desk.{Desk}
use Rattle.pp_flow.specs.Changes.{numbers as flow_numbers}
use Rattle.pp_flow_law.specs.Tables.{none_leaves}
use Rattle.pp_law.specs.Due.{Due, first_due}
use Rattle.pp_law.specs.Followers.{give_up_asks}
use Rattle.pp_law.specs.Phases.{behind, in_phase, is_done, is_done_with, next}
use Rattle.pp_law.specs.State.{State, Client, Phase, Term, Connecting, Deciding, Following}
use Rattle.pp_law.specs.Unseen.{drop_unseen}
use Rattle.pp_laws_turn.proofs.Laws.{sound_turns}
use Rattle.pp_laws_turn.specs.SoundTurn.{IsSoundTurn}
use Rattle.pp_obeys.proofs.Frames.{Frame, frame, frame_of, stays}
use Rattle.pp_obeys.proofs.StaysAsks.{drop_unseen-stays, give_up_asks-stays}
use Rattle.pp_obeys.proofs.StaysTurns.{followed-frame}
use Rattle.pp_obeys.specs.Obeys.{Obeys}
use Rattle.pp_peers.specs.declared.peers.Peer.{Peer}
use Rattle.pp_places_law.proofs.Askable.{CanBeAsked, filled_can}
use Rattle.pp_places_law.specs.Closings.{AreOpen}
use Rattle.pp_proxy.specs.Moving.{Moving, with_desk}
use Rattle.pp_proxy.specs.Rounds.{Becomes, Fills, GivesUp}
use Rattle.pp_rounds_law.specs.Decisions.{Passes}
use Rattle.pp_seats.specs.declared.seat.Seat.{Seat}
use Rattle.pp_seats_law.specs.Seats.{ShowsSeat}
use Rattle.pp_state.specs.Ends.{AreInOrder, Parts, numbers_of, parts}
use Rattle.pp_state.specs.declared.state.State.{State as Turn}
use Rattle.pp_states_law.specs.Decisions.{AreApart}
use Rattle.pp_states_law.specs.Steps.{ShowsSteps}
use Rattle.pp_store.specs.Kept.{KeptMap}
use Rattle.pp_take.specs.GivingUp.{all_given_up}
use Rattle.pp_turns_law.proofs.Wanted.{same_length}
use Rattle.pp_turns_law.specs.Firsts.{AreAwake}
use Rattle.pp_turns_law.specs.Turns.{ShowsTurn}
use Rattle.pp_world.specs.Log.{Log}
use Rattle.pp_rounds_law.proofs.Asking.{given_up_can, unseen_can}
use Rattle.pp_rounds_law.proofs.Carried.{Carries, carries_then, loosely}
use Rattle.pp_rounds_law.proofs.Coming.{comes_silently, comes_then}
use Rattle.pp_rounds_law.proofs.Decided.{few_of, limits_by, top_of}
use Rattle.pp_rounds_law.proofs.Follows.{AllFollow, follow_on, followers}
use Rattle.pp_rounds_law.proofs.Peers.{unseen_numbers}
use Rattle.pp_rounds_law.proofs.Quiet.{carries_filled, carries_given_up, carries_unseen}
use Rattle.pp_rounds_law.proofs.Ready.{awake_on, ready_on, sourced}
use Rattle.pp_rounds_law.proofs.Room.{once_each, room_for}
use Rattle.pp_rounds_law.proofs.Went.{as_many}
use Rattle.pp_rounds_law.specs.Coming.{ComesTo, IsBrief}
use Rattle.pp_rounds_law.specs.Stands.{StandsAmid}
use Rattle.pp_rounds_law.specs.Steps.{FollowingIsTheLaws, HasFollowed}
use Rattle.pp_rounds_law.specs.Supplies.{MayAskMore, RoundSupplies, followed, without_useless}

-- ---- of the law

done_deciding : (s : State) → s.phase ≡ Deciding → first_due s ≡ None → is_done s ≡ true
done_deciding s at none = ap (λ (p : Phase). is_done_with p s) at ∙ ap (λ (o : Option Due). not (is_some o)) none

next_following : (s : State) → s.phase ≡ Deciding → next s ≡ in_phase Following s
unfolding next
next_following s at = ap (λ (p : Phase). behind p s) at

next_connecting : (s : State) → next (in_phase Following s) ≡ followed s
unfolding next
next_connecting s = refl

pub goes_silently : (terms : List Term) (before : Log) (s : State) → Obeys terms s before → s.phase ≡ Deciding → first_due s ≡ None → ComesTo terms before [] s (followed s)
goes_silently terms before s obeys at none =
    let one : ComesTo terms before [] s (in_phase Following s) = subst (λ (t : State). ComesTo terms before [] s t) (next_following s at) (comes_silently terms before s obeys (done_deciding s at none)) in
    let two : ComesTo terms (before ++ []) [] (in_phase Following s) (followed s) =
    subst (λ (t : State). ComesTo terms (before ++ []) [] (in_phase Following s) t) (next_connecting s) (comes_silently terms (before ++ []) (in_phase Following s) one.obeys refl) in
    comes_then terms before [] [] s (in_phase Following s) (followed s) one two

same_frame : (s : State) → frame true (without_useless s) ≡ frame true (in_phase Connecting s)
same_frame s =
    frame_of {all = true} (give_up_asks-stays {all = true} {o = frame true (in_phase Connecting s)} (drop_unseen (in_phase Connecting s)) (drop_unseen-stays {all = true} {o = frame true (in_phase Connecting s)} (in_phase Connecting s) (stays refl)))

pub asked_frame : (s : State) → frame true (followed s) ≡ frame true (in_phase Connecting s)
asked_frame s = followed-frame true (in_phase Connecting s)

may_close_in : (phase : Phase) (s : State) → MayClose s → MayClose (in_phase phase s)
may_close_in phase s may = record { apart = may.apart; orderly = may.orderly; go = record { going = may.go.going; coming = may.go.coming } }

given_apart : (s : State) → AreApart s → AreApart (give_up_asks s)
unfolding give_up_asks
given_apart s apart = apart

few_seats : (a b c : ℕ) → a ≡ b → b ≡ c → c ≤ 256 → a ≤ 256
few_seats a b c one two few = omega (arith, one, two, few)

-- ---- of the turn

module _ (terms : List Term) (most : ℕ) (before : Log) (number : ℕ → ℕ) (shelf : KeptMap) (I : Turn → State → Type 0) (x : Moving) (seen given asked : Desk) (s : State) (supplies : RoundSupplies terms most shelf I) (obeys : Obeys terms s before) (brief : IsBrief most before) (amid : StandsAmid number shelf x s) (holds : I x.desk.state s)
    (at : s.phase ≡ Deciding) (none : first_due s ≡ None) (drops : Becomes without_unseen x.desk seen) (gives : GivesUp seen given) (fills : Fills given asked) (well : asked.state.is_astray ≡ false) where
  abbrev name : List ℕ
  name = x.desk.state.name.items

  abbrev u : State
  u = in_phase Connecting s

  abbrev left : Sides
  left = without_unseen (sides x.desk)

  comes : ComesTo terms before [] s (followed s)
  comes = goes_silently terms before s obeys at none

  -- what nobody sees
  shows : ShowsSides number name (sides x.desk) u
  shows = record { steps = steps_in Connecting s.made_room_for number name none_leaves x.desk.peers (parts x.desk.state) s amid.turn.steps; may = may_close_in Connecting s (supplies.closes before number x s obeys brief amid holds) }

  follow : AllFollow x.desk.state.cache x.desk.state.seats.items
  follow i seat here going = (amid.ready i seat here going).follows

  tells : Tells (sides x.desk) u
  tells = record {
    following = followers number name x.desk.state.cache u shows.steps.shows.table.table x.desk.state.seats.items u.clients shows.steps.shows.clients follow;
    counted = λ n k there. supplies.counted before number x s n k obeys brief amid holds there;
  }

  unseen : ShowsSides number name left (drop_unseen u)
  unseen = (all_drop number name (sides x.desk) u shows tells).0

  carried_left : Carries true (parts x.desk.state) left.parts
  carried_left = carries_unseen (sides x.desk)

  -- asks that bring nothing
  abbrev given_up : Parts
  given_up = all_given_up (flow_numbers left.parts.flow.waiting) left.parts

  seen_is : sides seen ≡ left
  seen_is = drops.is

  order : AreInOrder (flow_numbers left.parts.flow.waiting)
  order = waiting_in_order number name none_leaves left.peers left.parts (drop_unseen u) unseen.steps

  given_is : sides given ≡ with_parts (all_given_up (flow_numbers left.parts.flow.waiting)) left
  given_is =
      subst (λ (y : Sides). sides given ≡ with_parts (all_given_up (flow_numbers y.parts.flow.waiting)) y) seen_is
      (gives.is (subst (λ (y : Sides). AreInOrder (flow_numbers y.parts.flow.waiting)) (sym seen_is) order))

  follow_left : AllFollow left.parts.cache left.parts.seats
  follow_left = follow_on (parts x.desk.state) left.parts carried_left follow

  shown_seat : (i : ℕ) (seat : Seat) (c : Client) → IsAtPlace i left.parts (drop_unseen u) seat c → ShowsSeat number name [] seat c
  shown_seat i seat c place = shown_at number name [] left.parts.seats (drop_unseen u).clients seat.client.id i seat c unseen.steps.shows.clients (is_at i left.parts.seats seat unseen.steps.order place.here) place.here place.there

  steps_left : ShowsSteps number name none_leaves left.peers given_up (without_useless s)
  steps_left =
      gives_up number name none_leaves left.peers left.parts (drop_unseen u) unseen.steps
      (λ i seat c place going. follow_left i seat place.here ((shown_seat i seat c place).closing ∙ going)) unseen.may.apart (λ j. refl)

  carried_given : Carries true (parts x.desk.state) (parts given.state)
  carried_given =
      subst (λ (y : Sides). Carries true (parts x.desk.state) y.parts) (sym given_is)
      (carries_then true (parts x.desk.state) left.parts given_up carried_left (carries_given_up (flow_numbers left.parts.flow.waiting) left.parts))

  given_state : record given.state { seats = x.desk.state.seats; flow = x.desk.state.flow; cache = x.desk.state.cache; refused = x.desk.state.refused; is_astray = x.desk.state.is_astray } ≡ x.desk.state
  given_state =
      let one : record given.state { seats = seen.state.seats; flow = seen.state.flow; cache = seen.state.cache; refused = seen.state.refused; is_astray = seen.state.is_astray } ≡ seen.state = ap (λ (d : Desk). d.state) gives.rest in
      let two : record seen.state { seats = x.desk.state.seats; flow = x.desk.state.flow; cache = x.desk.state.cache; refused = x.desk.state.refused; is_astray = x.desk.state.is_astray } ≡ x.desk.state = ap (λ (d : Desk). d.state) drops.rest in
      ap (λ (r : Turn). record r { seats = x.desk.state.seats; flow = x.desk.state.flow; cache = x.desk.state.cache; refused = x.desk.state.refused; is_astray = x.desk.state.is_astray }) one ∙ two

  same_name : given.state.name.items ≡ name
  same_name = ap (λ (r : Turn). r.name.items) given_state

  law : frame true (without_useless s) ≡ frame true u
  law = same_frame s

  given_peers : given.peers ≡ left.peers
  given_peers = ap (λ (y : Sides). y.peers) given_is

  turn_given : ShowsTurn number none_leaves given.peers given.state (without_useless s)
  turn_given = record {
    steps =
        subst (λ (n : List ℕ). ShowsSteps number n none_leaves given.peers (parts given.state) (without_useless s)) (sym same_name)
        (subst (λ (y : Sides). ShowsSteps number name none_leaves y.peers y.parts (without_useless s)) (sym given_is) steps_left);
    name = same_name ∙ amid.turn.name ∙ ap (λ (o : Frame). o.settings.name) (sym law);
    shares = ap (λ (r : Turn). r.shares_fetches) given_state ∙ amid.turn.shares ∙ ap (λ (o : Frame). o.settings.shares_fetches) (sym law);
    clock = ap (λ (r : Turn). r.now) given_state ∙ amid.turn.clock ∙ ap (λ (o : Frame). o.clock) (sym law);
    ticked = ap (λ (r : Turn). r.is_ticked) given_state ∙ amid.turn.ticked ∙ ap (λ (o : Frame). o.is_ticked) (sym law);
    stopped = ap (λ (r : Turn). r.is_stopped) given_state ∙ amid.turn.stopped ∙ ap (λ (o : Frame). o.is_stopped) (sym law);
    bounded = subst (λ (m : Memory). IsBounded m) (sym carried_given.memory) amid.turn.bounded;
  }

  awake_given : AreAwake given.state
  awake_given = awake_on true x.desk.state given.state carried_given (ap (λ (r : Turn). r.awake.items) given_state) (ap (λ (r : Turn). r.is_ticked) given_state) amid.awake

  -- followers ask
  sound : IsSoundTurn s
  sound = sound_turns terms s before obeys

  -- no two connections have one number: closings took none away, and gave none
  apart_given : AreApart (without_useless s)
  apart_given = given_apart (drop_unseen u) unseen.may.apart

  may_ask : MayAskMore given.state (without_useless s)
  may_ask = supplies.asks before number x seen given s obeys brief amid holds at none drops gives

  follow_given : AllFollow given.state.cache given.state.seats.items
  follow_given = follow_on (parts x.desk.state) (parts given.state) carried_given follow

  seat_given : (i : ℕ) (seat : Seat) (c : Client) → IsAtPlace i (parts given.state) (without_useless s) seat c → ShowsSeat number given.state.name.items [] seat c
  seat_given i seat c place =
      shown_at number given.state.name.items [] given.state.seats.items (without_useless s).clients seat.client.id i seat c turn_given.steps.shows.clients (is_at i given.state.seats.items seat turn_given.steps.order place.here) place.here place.there

  may_fill : MayAllFill given.state (without_useless s)
  may_fill = record {
    follow = λ i seat c place going. record {
      there = follow_given i seat place.here ((seat_given i seat c place).closing ∙ going);
      wants = λ n is. may_ask.wants i seat c n place going is;
      within = λ n is. may_ask.within i seat c n place going is;
    };
    asks = λ n. record { once = once_each terms before s obeys at turn_given.steps.shows.exchanges.given n; going = may_ask.going; apart = apart_given };
  }

  -- at most 256 clients are there, and 768 exchanges
  room : (without_useless s).is_stopped ≡ false → HasRoomForAll given.state (without_useless s)
  room going = record {
    exchanges =
        room_for s (length given.state.seats.items) given.state.awake.items awake_given.order
        (few_seats (length given.state.seats.items) (length x.desk.state.seats.items) (length s.clients) carried_given.count (same_length number name x.desk.state.seats.items s.clients amid.turn.steps.shows.clients) sound.bounded.clients)
        (sound.bounded.exchanges amid.going);
    numbers = may_ask.numbers;
  }

  is_filled : IsFilled given.state asked.state
  is_filled = record { is = ap (λ (y : Sides). y.parts) fills.is; rest = ap (λ (d : Desk). d.state) fills.rest }

  turn_asked : ShowsTurn number none_leaves given.peers asked.state (followed s)
  turn_asked = (fills_all number none_leaves given.peers given.state asked.state (without_useless s) turn_given awake_given may_fill room is_filled).turn

  asked_peers : asked.peers ≡ given.peers
  asked_peers = ap (λ (y : Sides). y.peers) fills.is

  -- all of it
  carried : Carries true (parts x.desk.state) (parts asked.state)
  carried =
      carries_then true (parts x.desk.state) (parts given.state) (parts asked.state) carried_given
      (subst (λ (p : Parts). Carries true (parts given.state) p) (sym is_filled.is) (carries_filled given.state.is_stopped given.state.name.items given.state.awake.items (parts given.state)))

  asked_state : record asked.state { seats = x.desk.state.seats; flow = x.desk.state.flow; cache = x.desk.state.cache; refused = x.desk.state.refused; is_astray = x.desk.state.is_astray } ≡ x.desk.state
  asked_state = ap (λ (r : Turn). record r { seats = x.desk.state.seats; flow = x.desk.state.flow; cache = x.desk.state.cache; refused = x.desk.state.refused; is_astray = x.desk.state.is_astray }) is_filled.rest ∙ given_state

  numbers : numbers_of asked.state.seats.items ≡ numbers_of x.desk.state.seats.items
  numbers = fills.numbers ∙ gives.numbers ∙ drops.numbers

  same_peers : peer_numbers asked.peers ≡ peer_numbers x.desk.peers
  same_peers = ap peer_numbers (asked_peers ∙ given_peers) ∙ unseen_numbers (sides x.desk)

  asked_law : frame true (followed s) ≡ frame true u
  asked_law = asked_frame s

  can_given : CanBeAsked (parts given.state)
  can_given = subst (λ (y : Sides). CanBeAsked y.parts) (sym given_is) (given_up_can (flow_numbers left.parts.flow.waiting) left.parts (unseen_can (sides x.desk) (amid.waiting, amid.placed)))

  can_asked : CanBeAsked (parts asked.state)
  can_asked = subst (λ (p : Parts). CanBeAsked p) (sym is_filled.is) (filled_can given.state.is_stopped given.state.name.items given.state.awake.items (parts given.state) can_given)

  sound_then : IsSoundTurn (followed s)
  sound_then = sound_turns terms (followed s) (before ++ []) comes.obeys

  amid_asked : StandsAmid number shelf (with_desk asked x) (followed s)
  amid_asked = record {
    turn = subst (λ (ps : List Peer). ShowsTurn number none_leaves ps asked.state (followed s)) (sym asked_peers) turn_asked;
    ready =
        ready_on number asked.state.name.items x.desk.state.cache asked.state.cache s.next_instance x.desk.state.seats.items asked.state.seats.items s (followed s) amid.turn.steps.shows.table.table amid.ready (λ j new here. (j, carried.each j new here))
        (loosely (parts x.desk.state) (parts asked.state) carried).memory turn_asked.steps.shows.table.table turn_asked.steps.shows.clients (sourced (followed s) sound_then);
    kept = amid.kept;
    awake = awake_on true x.desk.state asked.state carried (ap (λ (r : Turn). r.awake.items) asked_state) (ap (λ (r : Turn). r.is_ticked) asked_state) amid.awake;
    none = ap (λ (o : Frame). o.made_room_for) asked_law ∙ amid.none;
    going = ap (λ (o : Frame). o.is_stopped) asked_law ∙ amid.going;
    limits = ap (λ (r : Turn). r.limits) asked_state ∙ amid.limits ∙ ap (λ (o : Frame). limits_by o.settings) (sym asked_law);
    waiting = can_asked.0;
    placed = can_asked.1;
    linked = subst (λ (ns : List ℕ). AreLinked ns x.links) (sym same_peers) amid.linked;
    seated = subst (λ (ns : List ℕ). AreOpen ns x.links) (sym numbers) amid.seated;
    given = amid.given;
    few = few_of (length x.links) (length x.links) (length x.desk.peers) (length asked.peers) refl amid.few (sym (as_many asked.peers) ∙ ap (λ (ns : List ℕ). length ns) same_peers ∙ as_many x.desk.peers);
    top = top_of (followed s).top s.top x.top x.top (ap (λ (o : Frame). o.top) asked_law) amid.top refl;
    room = subst (λ (r : Turn). 256 ≤ vec_capacity r.awake) (sym asked_state) amid.room;
    away = ap (λ (d : Desk). d.turned_away) fills.rest ∙ ap (λ (d : Desk). d.turned_away) gives.rest ∙ ap (λ (d : Desk). d.turned_away) drops.rest ∙ amid.away;
  }

  obeys_then : Obeys terms (followed s) before
  obeys_then = subst (λ (log : Log). Obeys terms (followed s) log) (append-nil before) comes.obeys

  pub has_followed : HasFollowed terms before number shelf I (with_desk asked x) s
  has_followed = record { comes = comes; phase = ap (λ (o : Frame). o.phase) asked_law; amid = amid_asked; holds = supplies.silent before number x seen given asked s obeys brief amid holds at none drops gives fills obeys_then amid_asked well }

pub following : FollowingIsTheLaws
following terms most before number shelf test x seen given asked s supplies obeys brief amid holds at none drops gives fills well =
    has_followed terms most before number shelf (Passes test) x seen given asked s supplies obeys brief amid holds at none drops gives fills well
