-- Nothing came yet of an origin: all stands as before.
use Rattle.std.proofs.Common.{◌≡◌, refl, sym, subst, ap, ◌∙◌, ℕ, List}
use Rattle.std.specs.Prelude.{slice_get}
use Rattle.pp_cache.specs.Bounds.{IsBounded}
use Rattle.pp_cache.specs.Memory.{Memory}
use Rattle.pp_desk.specs.Closings.{Sides, peer_numbers, sides}
use Rattle.pp_desk.specs.declared.desk.Desk.{Desk}
use Rattle.pp_events_law.proofs.Left.{AreLeft, left_flow}
use Rattle.pp_events_law.proofs.ReadyBehind.{ready_behind}
use Rattle.pp_events_law.proofs.Standing.{HasWords, awake_as, may_as, open_as, steps_as, turn_by}
use Rattle.pp_events_law.specs.Ready.{StaysReady}
use Rattle.pp_events_law.specs.Stands.{AreReadyAt, IsHandled, StandsAtEvent}
use Rattle.pp_flow_law.specs.Tables.{none_leaves}
use Rattle.pp_law.specs.After.{paid}
use Rattle.pp_law.specs.Lists.{Bytes}
use Rattle.pp_law.specs.Replies.{regained}
use Rattle.pp_law.specs.State.{State, Handling, Free, ReadOf}
use Rattle.pp_origins.specs.Gots.{Makes, both}
use Rattle.pp_proxy.specs.Handling.{ReceivesOn}
use Rattle.pp_proxy.specs.Moving.{Turning}
use Rattle.pp_seats.specs.declared.seat.Seat.{Seat}
use Rattle.pp_state.specs.Ends.{Parts, parts}
use Rattle.pp_states_law.specs.Steps.{ShowsSteps}
use Rattle.pp_turns_law.specs.Turns.{IsFollowing}
use Rattle.pp_reads_law.proofs.Knows.{knows_rest}
use Rattle.pp_reads_law.specs.Stays.{KnowsAsMuch}

module _ (number : ℕ → ℕ) (k : ℕ) (x y : Turning) (s : State) (stands : StandsAtEvent number Handling (ReadOf k) x.moving s) (ready : AreReadyAt number x.moving s) (bounded : IsBounded y.moving.desk.state.cache) (receives : ReceivesOn k x y) (same : Makes (λ z. z) (both x.moving.desk) (both y.moving.desk)) where
  abbrev old : Desk
  old = x.moving.desk

  abbrev new : Desk
  new = y.moving.desk

  abbrev u : State
  u = record s { owed = Free }

  sides_are : sides new ≡ sides old
  sides_are = same.is

  knows : KnowsAsMuch old.state new.state
  knows = knows_rest old.state new.state same.rest

  seats_are : new.state.seats.items ≡ old.state.seats.items
  seats_are = ap (λ (z : Sides). z.parts.seats) sides_are

  words : HasWords new.state u
  words = record {
    name = knows.name ∙ stands.desk.turn.name;
    shares = knows.shares ∙ stands.desk.turn.shares;
    clock = knows.clock ∙ stands.desk.turn.clock;
    ticked = knows.ticked ∙ stands.desk.turn.ticked;
    stopped = knows.stopped ∙ stands.desk.turn.stopped;
  }

  none_stands : StandsAtEvent number Handling Free y.moving u
  none_stands = record {
    law = record { at = stands.law.at; owes = refl; none = stands.law.none };
    desk = record {
      turn = turn_by number new.peers new.state u words bounded
          (subst (λ (z : Sides). ShowsSteps number new.state.name.items none_leaves z.peers z.parts u) (sym sides_are)
          (steps_as number new.state.name.items old.peers (parts old.state) s u (record { clients = refl; conns = refl; exchanges = refl; next_exchange = refl; instances = refl; next_instance = refl; chunks = refl; kept = λ i. refl })
          (subst (λ (text : Bytes). ShowsSteps number text none_leaves old.peers (parts old.state) s) (sym knows.name) stands.desk.turn.steps)));
      may = may_as s u refl refl refl stands.desk.may;
    };
    ticked = knows.was_ticked ∙ stands.ticked;
    awake = awake_as old.state new.state seats_are knows.awake knows.ticked stands.awake;
    opened = open_as x.moving y.moving s.top u.top receives.numbers (ap (λ (z : Sides). peer_numbers z.peers) sides_are) receives.one.links receives.one.top refl stands.opened;
  }

  pub none_handled : IsHandled number y.moving (paid s)
  unfolding paid
  none_handled = record {
    handled = u;
    anew = refl;
    stands = none_stands;
    follows = λ i seat here going. subst (λ (m : Memory). IsFollowing m seat) (sym (ap (λ (z : Sides). z.parts.cache) sides_are)) (ready i seat (ap (λ (ss : List Seat). slice_get ss i) (sym seats_are) ∙ here) going).follows;
  }

  pub none_ready : StaysReady number x y (paid s)
  unfolding paid regained
  none_ready = ready_behind number x y s (paid s) refl (subst (λ (p : Parts). AreLeft (parts old.state) p) (sym (ap (λ (z : Sides). z.parts) sides_are)) (left_flow (parts old.state) old.state.flow)) none_handled.follows ready
