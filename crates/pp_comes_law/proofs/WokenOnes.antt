-- A client that can be written to is the same, whichever way it is woken.
use Rattle.std.proofs.Common.{◌≡◌, refl, sym, ap, ap₂, ◌∙◌, ℕ, List, Option, Some, None}
use Rattle.std.specs.Prelude.{slice_get}
use Rattle.pp_cache_law.proofs.Numbers.{some_is}
use Rattle.pp_desk.specs.Closings.{Sides, sides}
use Rattle.pp_desk.specs.Marks.{marked_seat, touched}
use Rattle.pp_desk.specs.declared.desk.Desk.{Desk}
use Rattle.pp_due.specs.OnDisk.{next_on_disk}
use Rattle.pp_proxy.specs.Handling.{Wakes}
use Rattle.pp_seats.specs.declared.seat.Seat.{Seat}
use Rattle.pp_state.specs.Ends.{all_regained, changed_at, numbers_of, on_seat_where, place_of}
use Rattle.pp_comes_law.specs.ClientWrites.{WrittenOnesWake}
use Rattle.pp_comes_law.proofs.CanWrite.{now, same_next}

-- ---- all of them

abbrev marked_at : Option ℕ → ℕ → List Seat → List Seat
marked_at o now seats = elim o as (λ t. List Seat) [ None ↦ seats | Some i ↦ changed_at i (marked_seat now) seats ]

abbrev marked_of : ℕ → ℕ → List Seat → List Seat
marked_of now id seats = marked_at (place_of id (numbers_of seats)) now seats

touched_seats : (now id : ℕ) (x : Sides) → (touched now id x).parts.seats ≡ marked_of now id x.parts.seats
touched_seats now id x = by (place_of id (numbers_of x.parts.seats))
  where
    by : (o : Option ℕ) → (on_seat_where o (marked_seat now) x.parts).seats ≡ marked_at o now x.parts.seats
    by None = refl
    by (Some i) = refl

woken_seats : (id : ℕ) (old woken : Desk) → Wakes id old woken → woken.state.seats.items ≡ marked_of old.state.now id (all_regained old.state.cache old.state.awake.items old.state.seats.items)
woken_seats id old woken wakes =
    ap (λ (z : Sides). z.parts.seats) wakes.touches.is ∙ touched_seats wakes.anew.state.now id (sides wakes.anew)
    ∙ ap₂ (λ (n : ℕ) (seats : List Seat). marked_of n id seats) (ap (λ (d : Desk). d.state.now) wakes.regains.rest) wakes.regains.is

-- ---- the one

pub written_ones_wake : WrittenOnesWake
written_ones_wake id i seat terms log number w x y u it can writes =
    let one = now id i seat terms log number w x u it can writes.woken writes.wakes in
    record {
      new = one.seat;
      here = λ woken wakes. there woken wakes;
      next = λ woken wakes.
          let other = now id i seat terms log number w x u it can woken wakes in
          ap (λ (z : Seat). next_on_disk woken.state z) (some_is one.seat other.seat (sym (there woken wakes) ∙ other.there)) ∙ same_next id i seat terms log number w x u it can woken wakes;
    }
  where
    there : (woken : Desk) → Wakes id x.moving.desk woken → slice_get woken.state.seats.items i ≡ Some (now id i seat terms log number w x u it can writes.woken writes.wakes).seat
    there woken wakes =
        ap (λ (seats : List Seat). slice_get seats i) (woken_seats id x.moving.desk woken wakes ∙ sym (woken_seats id x.moving.desk writes.woken writes.wakes)) ∙ (now id i seat terms log number w x u it can writes.woken writes.wakes).there
