-- Behind what one client was said, or behind its loss, replies that are over end, and the turn stands behind them: the event is handled.
use Rattle.std.proofs.Common.{◌≡◌, refl, sym, subst, ap, ◌∙◌, ℕ, Bool, true, false, ◌==◌, length, List}
use Rattle.std.specs.Prelude.{slice_get}
use Rattle.pp_cache.specs.Bounds.{IsBounded}
use Rattle.pp_cache_law.proofs.Numbers.{is_same}
use Rattle.pp_desk.specs.Closings.{KeepsDesk, Sides, peer_numbers, sides}
use Rattle.pp_desk.specs.Replies.{EndsReplies}
use Rattle.pp_desk.specs.declared.desk.Desk.{Desk}
use Rattle.pp_endings_law.proofs.Ended.{all_end}
use Rattle.pp_endings_law.proofs.Walk.{IsButFor, IsGood, as_many}
use Rattle.pp_endings_law.specs.Replies.{AreLookedAt, HasEnded}
use Rattle.pp_events_law.proofs.Beside.{AreBeside, replies_beside}
use Rattle.pp_events_law.proofs.Sourced.{follow_of}
use Rattle.pp_events_law.proofs.Standing.{HasWords, may_as, open_as, steps_as, turn_by}
use Rattle.pp_events_law.specs.Stands.{IsHandled, StandsAtEvent}
use Rattle.pp_flow_law.specs.Tables.{AreGiven, none_leaves}
use Rattle.pp_law.specs.After.{paid}
use Rattle.pp_law.specs.Lists.{Bytes, has_number}
use Rattle.pp_law.specs.Replies.{end_replies, regained}
use Rattle.pp_law.specs.State.{State, Owed, Handling, Free}
use Rattle.pp_proxy.specs.Handling.{Rouses}
use Rattle.pp_proxy.specs.Moving.{Turning}
use Rattle.pp_state.specs.Ends.{numbers_of, parts}
use Rattle.pp_state.specs.declared.state.State.{State as Turn}
use Rattle.pp_states_law.specs.Steps.{ShowsSteps}
use Rattle.pp_turns_law.specs.Firsts.{AreAwake}
use Rattle.pp_turns_law.specs.Marks.{AreLoud}

apart_from : (i j : ℕ) (ms : List ℕ) → has_number i ms ≡ true → has_number j ms ≡ false → (i == j) ≡ false
apart_from i j ms has none = by (i == j) refl
  where
    by : (b : Bool) → (i == j) ≡ b → b ≡ false
    by false is = refl
    by true is = absurd (let both : true ≡ false = sym has ∙ ap (λ (k : ℕ). has_number k ms) (is_same i j is) ∙ none in cc both)

-- the client at a place was looked at, and all but it stands as before
module _ (number : ℕ → ℕ) (i : ℕ) (x y : Turning) (owed : Owed) (s : State) (stands : StandsAtEvent number Handling owed x.moving s) (still : x.moving.desk.state.is_ticked ≡ false) (looked : Desk) (rouses : Rouses i x.moving.desk looked) (loud : AreLoud looked.state)
    (its_awake : has_number i looked.state.awake.items ≡ true) (next : Sides) (m : State) (good : IsGood number x.moving.desk.state.name.items next m) (rest : IsButFor s m) (same_numbers : numbers_of next.parts.seats ≡ numbers_of x.moving.desk.state.seats.items)
    (others : (j : ℕ) → (i == j) ≡ false → slice_get next.parts.seats j ≡ slice_get x.moving.desk.state.seats.items j) (same_peers : peer_numbers next.peers ≡ peer_numbers x.moving.desk.peers) (ends : EndsReplies looked.state.awake.items next (sides y.moving.desk))
    (numbers : numbers_of y.moving.desk.state.seats.items ≡ numbers_of x.moving.desk.state.seats.items) (keeps : KeepsDesk looked (record y.moving.desk { room = looked.room })) (links : y.moving.links ≡ x.moving.links) (top : y.moving.top ≡ x.moving.top) (bounded : IsBounded y.moving.desk.state.cache) where
  abbrev old : Desk
  old = x.moving.desk

  abbrev p : Turn
  p = old.state

  abbrev name : Bytes
  name = p.name.items

  abbrev behind : Desk
  behind = y.moving.desk

  abbrev u : State
  u = record (end_replies m) { owed = Free }

  same_sides : sides looked ≡ sides old
  same_sides = ap (λ (d : Desk). sides d) rouses.rest

  looked_long : length next.parts.seats ≡ length p.seats.items
  looked_long = sym (as_many next.parts.seats) ∙ ap (λ (ns : List ℕ). length ns) same_numbers ∙ as_many p.seats.items

  looked_at : AreLookedAt looked.state.awake.items next.parts.seats
  looked_at = record {
    order = subst (λ (n : ℕ). AreGiven 0 n looked.state.awake.items) (ap (λ (z : Sides). length z.parts.seats) same_sides ∙ sym looked_long) loud.order;
    others = λ j other at none. loud.others j other (ap (λ (z : Sides). slice_get z.parts.seats j) same_sides ∙ sym (others j (apart_from i j looked.state.awake.items its_awake none)) ∙ at) none;
  }

  ended : HasEnded number name (sides behind) m (end_replies m)
  ended = all_end number name next m good.shows looked.state.awake.items (sides behind) looked_at good.may good.ends ends

  -- all that is no part of it
  stays : {A : Type 0} (f : State → A) → f (record m { clients = (end_replies m).clients; conns = (end_replies m).conns; exchanges = (end_replies m).exchanges; instances = (end_replies m).instances; chunks = (end_replies m).chunks }) ≡ f m
      → f (record s { clients = m.clients; conns = m.conns; exchanges = m.exchanges; instances = m.instances; chunks = m.chunks }) ≡ f s → f (end_replies m) ≡ f s
  stays f one two = ap f ended.rest ∙ one ∙ ap f rest ∙ two

  same_name : behind.state.name.items ≡ name
  same_name = ap (λ (d : Desk). d.state.name.items) keeps ∙ ap (λ (d : Desk). d.state.name.items) rouses.rest

  words : HasWords behind.state u
  words = record {
    name = same_name ∙ stands.desk.turn.name ∙ sym (stays (λ t. t.settings.name) refl refl);
    shares = ap (λ (d : Desk). d.state.shares_fetches) keeps ∙ ap (λ (d : Desk). d.state.shares_fetches) rouses.rest ∙ stands.desk.turn.shares ∙ sym (stays (λ t. t.settings.shares_fetches) refl refl);
    clock = ap (λ (d : Desk). d.state.now) keeps ∙ ap (λ (d : Desk). d.state.now) rouses.rest ∙ stands.desk.turn.clock ∙ sym (stays (λ t. t.clock) refl refl);
    ticked = ap (λ (d : Desk). d.state.is_ticked) keeps ∙ ap (λ (d : Desk). d.state.is_ticked) rouses.rest ∙ stands.desk.turn.ticked ∙ sym (stays (λ t. t.is_ticked) refl refl);
    stopped = ap (λ (d : Desk). d.state.is_stopped) keeps ∙ ap (λ (d : Desk). d.state.is_stopped) rouses.rest ∙ stands.desk.turn.stopped ∙ sym (stays (λ t. t.is_stopped) refl refl);
  }

  beside : AreBeside looked.state.awake.items next (sides behind)
  beside = replies_beside looked.state.awake.items next (sides behind) ends

  as_long : length behind.state.seats.items ≡ length p.seats.items
  as_long = sym (as_many behind.state.seats.items) ∙ ap (λ (ns : List ℕ). length ns) numbers ∙ as_many p.seats.items

  same_awake : behind.state.awake.items ≡ looked.state.awake.items
  same_awake = ap (λ (d : Desk). d.state.awake.items) keeps

  awake_behind : AreAwake behind.state
  awake_behind = record {
    order = subst (λ (ns : List ℕ). AreGiven 0 (length behind.state.seats.items) ns) (sym same_awake) (subst (λ (n : ℕ). AreGiven 0 n looked.state.awake.items) (ap (λ (z : Sides). length z.parts.seats) same_sides ∙ sym as_long) loud.order);
    others = λ j other at out.
        let none : has_number j looked.state.awake.items ≡ false = ap (λ (ns : List ℕ). has_number j ns) (sym same_awake) ∙ out in record {
          silent = looked_at.others j other (sym (beside.others j none) ∙ at) none;
          ticked = ap (λ (d : Desk). d.state.is_ticked) keeps ∙ ap (λ (d : Desk). d.state.is_ticked) rouses.rest ∙ still;
        };
  }

  end_stands : StandsAtEvent number Handling Free y.moving u
  end_stands = record {
    law = record { at = stays (λ t. t.phase) refl refl ∙ stands.law.at; owes = refl; none = stays (λ t. t.made_room_for) refl refl ∙ stands.law.none };
    desk = record {
      turn = turn_by number behind.peers behind.state u words bounded
          (subst (λ (text : Bytes). ShowsSteps number text none_leaves behind.peers (parts behind.state) u) (sym same_name)
          (steps_as number name behind.peers (parts behind.state) (end_replies m) u
          (record { clients = refl; conns = refl; exchanges = refl; next_exchange = refl; instances = refl; next_instance = refl; chunks = refl; kept = λ k. refl }) ended.shows.steps));
      may = may_as (end_replies m) u refl refl refl ended.shows.may;
    };
    ticked = ap (λ (d : Desk). d.state.has_ticked) keeps ∙ ap (λ (d : Desk). d.state.has_ticked) rouses.rest ∙ stands.ticked ∙ sym (stays (λ t. t.has_ticked) refl refl);
    awake = awake_behind;
    opened = open_as x.moving y.moving s.top u.top numbers (beside.peers ∙ same_peers) links top (stays (λ t. t.top) refl refl) stands.opened;
  }

  pub behind_handled : IsHandled number y.moving (paid (end_replies m))
  unfolding paid
  behind_handled = record { handled = u; anew = refl; stands = end_stands; follows = follow_of number name behind.peers (parts behind.state) (end_replies m) ended.shows.steps ended.may.follow }

  -- no instance came in
  pub behind_next : (paid (end_replies m)).next_instance ≡ s.next_instance
  unfolding paid regained
  behind_next = stays (λ t. t.next_instance) refl refl
