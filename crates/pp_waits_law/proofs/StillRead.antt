-- Behind a wait whoever is not looked at was read there.
use Rattle.std.proofs.Common.{◌≡◌, inr, sym, subst, ap, ◌∙◌, ℕ, true, false, filter, take, List, Some}
use Rattle.std.specs.Prelude.{slice_get}
use Rattle.pp_desk.proofs.ClosingLemmas.{order_kept}
use Rattle.pp_desk.specs.declared.desk.Desk.{Desk}
use Rattle.pp_due.specs.Waits.{is_read}
use Rattle.pp_law.specs.Lists.{has_number}
use Rattle.pp_law.specs.State.{State}
use Rattle.pp_proxy.specs.Awaiting.{Awaits, Rests}
use Rattle.pp_seats.specs.Seats.{is_silent}
use Rattle.pp_seats.specs.declared.seat.Seat.{Seat}
use Rattle.pp_state.specs.Ends.{numbers_of}
use Rattle.pp_waits_law.proofs.Left.{wants_leave}
use Rattle.pp_waits_law.proofs.Like.{all_numbers, waiting_is}
use Rattle.pp_waits_law.proofs.Read.{silent_read, written}
use Rattle.pp_waits_law.proofs.ReadWritten.{IsOf, found, has_at, in_those, its_number, one_place}
use Rattle.pp_waits_law.proofs.Says.{its_test}
use Rattle.pp_waits_law.proofs.Waited.{clients_taken}
use Rattle.pp_waits_law.specs.Asleep.{WereRead}
use Rattle.pp_waits_law.specs.Reads.{MayRead, WaitsLeaveRead}
use Rattle.pp_waits_law.specs.Rests.{StandsLoud}
use Rattle.pp_world.specs.declared.event.Wants.{Wants}

module _ (number : ℕ → ℕ) (before : List ℕ) (w : Wants) (clients : ℕ) (d e f : Desk) (s : State) (can : MayRead number before d s) (awaits : Awaits before w clients d e) (rests : Rests w clients e f) where
  abbrev seats : List Seat
  seats = d.state.seats.items

  taken : take clients w.read.items ≡ numbers_of (filter is_read seats)
  taken = clients_taken before w clients d e can.may.stands.turn.steps.order can.may.order awaits ∙ written number before w clients d e s can awaits

  loud : StandsLoud number e s
  loud = wants_leave number before w clients d e s can.may.stands awaits

  numbers : numbers_of f.state.seats.items ≡ numbers_of seats
  numbers = ap (λ (xs : List Seat). numbers_of xs) (rests.seats ∙ waiting_is e.state) ∙ all_numbers e.state e.state.awake.items e.state.seats.items ∙ ap (λ (xs : List Seat). numbers_of xs) awaits.seats

  awake : f.state.awake.items ≡ e.state.awake.items
  awake = ap (λ (x : Desk). x.state.awake.items) rests.rest

  -- of a client of that number, at that place
  read_there : (i n : ℕ) → slice_get (numbers_of seats) i ≡ Some n → has_number i f.state.awake.items ≡ false → IsOf n seats → has_number n (numbers_of (filter is_read seats)) ≡ true
  read_there i n at out its =
      subst (λ (k : ℕ). has_number k (numbers_of (filter is_read seats)) ≡ true) its.is
      (its_test is_read seats its.place its.seat can.may.stands.turn.steps.order its.here ∙ silent_read number before w clients d e s can awaits its.place its.seat its.here silent)
    where
      place : its.place ≡ i
      place = one_place n (numbers_of seats) its.place i can.may.stands.turn.steps.order (its_number seats its.place its.seat its.here ∙ ap (λ (k : ℕ). Some k) its.is) at

      silent : is_silent its.seat ≡ true
      silent = loud.loud.others its.place its.seat (ap (λ (xs : List Seat). slice_get xs its.place) awaits.seats ∙ its.here)
          (ap (λ (k : ℕ). has_number k e.state.awake.items) place ∙ ap (λ (ns : List ℕ). has_number i ns) (sym awake) ∙ out)

  read : WereRead (numbers_of (filter is_read seats)) f.state
  read = record {
    order = order_kept is_read seats can.may.stands.turn.steps.order;
    asleep = λ i n at out.
        let here : slice_get (numbers_of seats) i ≡ Some n = ap (λ (ns : List ℕ). slice_get ns i) (sym numbers) ∙ at in
        read_there i n here out (found n seats (has_at (numbers_of seats) i n here));
    known = inr (λ n has. ap (λ (ns : List ℕ). has_number n ns) numbers ∙ in_those is_read n seats has);
  }

pub left_read : WaitsLeaveRead
left_read number before w clients d e f s can awaits rests =
    subst (λ (ns : List ℕ). WereRead ns f.state) (sym (taken number before w clients d e f s can awaits rests)) (read number before w clients d e f s can awaits rests)
