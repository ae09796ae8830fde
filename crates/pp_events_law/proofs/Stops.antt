-- Behind Stop the turn stands, and all are looked at.
use Rattle.std.proofs.Common.{◌≡◌, refl, sym, subst, ap, ◌∙◌, ℕ, length, [], ◌∷◌}
use Rattle.pp_cache.specs.Bounds.{IsBounded}
use Rattle.pp_cache.specs.Memory.{Memory}
use Rattle.pp_desk.specs.Closings.{Sides, peer_numbers, sides}
use Rattle.pp_desk.specs.declared.desk.Desk.{Desk}
use Rattle.pp_flow_law.specs.Tables.{none_leaves}
use Rattle.pp_law.specs.After.{event}
use Rattle.pp_law.specs.Phases.{in_phase}
use Rattle.pp_law.specs.Replies.{regained}
use Rattle.pp_law.specs.State.{State, Awaiting, Handling, Free}
use Rattle.pp_obeys.proofs.Happenings.{goes_stopped}
use Rattle.pp_obeys.specs.Moves.{Leads}
use Rattle.pp_proxy.specs.Handling.{IsSilent, Stops}
use Rattle.pp_proxy.specs.Moving.{Turning}
use Rattle.pp_state.specs.Ends.{numbers_of, parts}
use Rattle.pp_state.specs.Numbers.{places}
use Rattle.pp_states_law.specs.Steps.{ShowsSteps}
use Rattle.pp_turns_law.proofs.Looked.{all_awake}
use Rattle.pp_turns_law.specs.Rows.{AreReady}
use Rattle.pp_world.specs.declared.event.Event.TheVariants.{Stop}
use Rattle.pp_world.specs.declared.happening.Happening.TheVariants.{Stopped}
use Rattle.pp_events_law.proofs.Standing.{HasWords, desk_by, may_as, one_leads, open_as, steps_as}
use Rattle.pp_events_law.specs.Silent.{HasRoom, StopsLead, stopped}
use Rattle.pp_events_law.specs.Stands.{AreReadyAt, IsHandled, StandsAtEvent, come}

module _ (number : ℕ → ℕ) (x y : Turning) (s : State) (stands : StandsAtEvent number Awaiting Free x.moving s) (ready : AreReadyAt number x.moving s) (room : HasRoom x.moving.desk.state) (stops : Stops x.moving.desk y.moving.desk) (silent : IsSilent (come Stop x) y) where
  abbrev old : Desk
  old = x.moving.desk

  abbrev new : Desk
  new = y.moving.desk

  abbrev u : State
  u = in_phase Handling (stopped s)

  sides_stay : sides new ≡ sides old
  sides_stay = ap (λ (d : Desk). sides d) stops.rest

  words : HasWords new.state u
  words = record {
    name = ap (λ (d : Desk). d.state.name.items) stops.rest ∙ stands.desk.turn.name;
    shares = ap (λ (d : Desk). d.state.shares_fetches) stops.rest ∙ stands.desk.turn.shares;
    clock = ap (λ (d : Desk). d.state.now) stops.rest ∙ stands.desk.turn.clock;
    ticked = ap (λ (d : Desk). d.state.is_ticked) stops.rest ∙ stands.desk.turn.ticked;
    stopped = ap (λ (d : Desk). d.state.is_stopped) stops.rest;
  }

  steps : ShowsSteps number old.state.name.items none_leaves old.peers (parts old.state) u
  steps = steps_as number old.state.name.items old.peers (parts old.state) s u
      (record { clients = refl; conns = refl; exchanges = refl; next_exchange = refl; instances = refl; next_instance = refl; chunks = refl; kept = λ i. refl }) stands.desk.turn.steps

  stop_stands : StandsAtEvent number Handling Free y.moving u
  stop_stands = record {
    law = record { at = refl; owes = stands.law.owes; none = stands.law.none };
    desk = desk_by number old new u (ap (λ (d : Desk). d.state.name.items) stops.rest) words (subst (λ (m : Memory). IsBounded m) (sym (ap (λ (d : Desk). d.state.cache) stops.rest)) stands.desk.turn.bounded)
        (subst (λ (z : Sides). ShowsSteps number old.state.name.items none_leaves z.peers z.parts u) (sym sides_stay) steps) (may_as s u refl refl refl stands.desk.may);
    ticked = ap (λ (d : Desk). d.state.has_ticked) stops.rest ∙ stands.ticked;
    awake = all_awake new.state (stops.awake room ∙ sym (ap (λ (z : Sides). places (length z.parts.seats)) sides_stay));
    opened = open_as x.moving y.moving s.top u.top (ap (λ (z : Sides). numbers_of z.parts.seats) sides_stay) (ap (λ (z : Sides). peer_numbers z.peers) sides_stay) silent.links silent.top refl stands.opened;
  }

  stop_leads : Leads (Stopped ∷ []) s (event (stopped s))
  stop_leads = one_leads s (event (stopped s)) Stopped refl (goes_stopped s stands.law.none stands.law.at)

  stop_ready : AreReadyAt number y.moving (event (stopped s))
  unfolding event regained
  stop_ready = subst (λ (z : Sides). AreReady number z.parts.cache s.next_instance z.parts.seats) (sym sides_stay) ready

  stop_handled : IsHandled number y.moving (event (stopped s))
  unfolding event
  stop_handled = record { handled = u; anew = refl; stands = stop_stands; follows = λ i seat here going. (stop_ready i seat here going).follows }

pub stops : StopsLead
stops number x y s stands ready room handles =
    (record { leads = stop_leads number x y s stands ready room handles.0 handles.1; handled = stop_handled number x y s stands ready room handles.0 handles.1 }, stop_ready number x y s stands ready room handles.0 handles.1)
