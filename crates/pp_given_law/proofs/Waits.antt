-- What holds of each client holds over a wait, and behind the event.
use Rattle.std.proofs.Common.{◌≡◌, refl, sym, subst, ap, ◌∙◌, ℕ, Bool, true, false, fold, List, [], ◌∷◌}
use Rattle.pp_desk.specs.Closings.{Sides}
use Rattle.pp_desk.specs.declared.desk.Desk.{Desk}
use Rattle.pp_due.specs.Waits.{rested_seat}
use Rattle.pp_flow.specs.Changes.{Exchanges, entry_of, numbers as flow_numbers}
use Rattle.pp_framing.specs.declared.body.BodyRule.{BodyRule}
use Rattle.pp_head.specs.Response.{Response}
use Rattle.pp_proxy.specs.Awaiting.{Awaits, Rests}
use Rattle.pp_proxy.specs.Events.{Keeps}
use Rattle.pp_proxy.specs.Leaving.{Leaves}
use Rattle.pp_proxy.specs.Moving.{Moving, Turning}
use Rattle.pp_seats.specs.declared.seat.Seat.{Seat}
use Rattle.pp_state.specs.Asking.{is_useless}
use Rattle.pp_state.specs.Ends.{AreInOrder, Parts, ended, parts}
use Rattle.pp_state.specs.declared.state.State.{State}
use Rattle.pp_take.specs.GivingUp.{all_given_up, given_up_if}
use Rattle.pp_wants.specs.Rests.{rested_at}
use Rattle.pp_world.specs.declared.event.Wants.{Wants}
use Rattle.pp_world.specs.Log.{Log}
use Rattle.pp_stays_law.proofs.Walk.{AllAt, changed_all}
use Rattle.pp_given_law.proofs.Carried.{Suits}
use Rattle.pp_given_law.proofs.Written.{regained_all}

module _ (S : Seat → Type 0) (Fits : List ℕ → Response → BodyRule → Type 0) (suits : Suits S Fits) where
  -- ---- the wait: each that is looked at waits for what it shares

  each_rests : (s : State) (places : List ℕ) (seats : List Seat) → AllAt S seats → AllAt S (fold (rested_at s) seats places)
  each_rests s [] seats h = h
  each_rests s (i ∷ places) seats h = each_rests s places (rested_at s seats i) (changed_all S i (rested_seat s) seats (λ seat its. suits.carry seat (rested_seat s seat) (λ is. is) (λ is. is) its) h)

  pub waits_stay : (before : List ℕ) (wants : Wants) (clients : ℕ) (old awaiting rested : Desk) → Awaits before wants clients old awaiting → Rests wants clients awaiting rested → AllAt S old.state.seats.items → AllAt S rested.state.seats.items
  waits_stay before wants clients old awaiting rested awaits rests h =
      subst (λ (ss : List Seat). AllAt S ss) (sym rests.seats) (each_rests awaiting.state awaiting.state.awake.items awaiting.state.seats.items (subst (λ (ss : List Seat). AllAt S ss) (sym awaits.seats) h))

  -- ---- behind the event

  given_up_seats : (ns : List ℕ) (p : Parts) → (all_given_up ns p).seats ≡ p.seats
  unfolding all_given_up
  given_up_seats [] p = refl
  given_up_seats (n ∷ ns) p = given_up_seats ns (given_up_if n p) ∙ by (is_useless p.cache p.seats (entry_of n p.flow))
    where
      by : (b : Bool) → (elim b as (λ t. Parts) [ true ↦ ended n p | false ↦ p ]).seats ≡ p.seats
      by true = refl
      by false = refl

  pub leaves_stay : (x y : Moving) (log : Log) → AreInOrder (flow_numbers x.desk.state.flow.waiting) → Leaves x log y → AllAt S x.desk.state.seats.items → AllAt S y.desk.state.seats.items
  leaves_stay x y log order leaves h =
      let anew : Desk = leaves.anew in
      let left : Desk = leaves.left in
      let flows : left.state.flow ≡ x.desk.state.flow = ap (λ (s : State). s.flow) leaves.leaves.is.rest ∙ ap (λ (d : Desk). d.state.flow) leaves.regains.rest in
      let seats : y.desk.state.seats.items ≡ anew.state.seats.items =
      ap (λ (w : Sides). w.parts.seats) (leaves.gives.is (subst (λ (f : Exchanges). AreInOrder (flow_numbers f.waiting)) (sym flows) order))
      ∙ given_up_seats (flow_numbers left.state.flow.waiting) (parts left.state)
      ∙ ap (λ (s : State). s.seats.items) leaves.leaves.is.rest in
      subst (λ (ss : List Seat). AllAt S ss) (sym seats)
      (subst (λ (ss : List Seat). AllAt S ss) (sym leaves.regains.is) (regained_all S Fits suits x.desk.state.cache x.desk.state.awake.items x.desk.state.seats.items h))

  pub keeps_stay : (x y : Turning) → Keeps x y → AllAt S x.moving.desk.state.seats.items → AllAt S y.moving.desk.state.seats.items
  keeps_stay x y keeps h = subst (λ (ss : List Seat). AllAt S ss) (sym (ap (λ (d : Desk). d.state.seats.items) keeps.rest)) h
