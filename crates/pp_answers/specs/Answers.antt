-- What an answer that is not to be shared does to the row of its key, and to its request (RFC 2616, section 14.9).
use Rattle.pp_flow.specs.Errands.{attempts_in}
use Rattle.pp_flow.specs.declared.entry.Exchange.{Exchange}
use Rattle.pp_flow.specs.declared.errand.Errand.{Errand}
use Rattle.pp_seats.specs.Courses.{without_shared_row}
use Rattle.pp_seats.specs.declared.seat.Seat.{Seat}
use Rattle.pp_state.specs.Ends.{Parts, cleared_row, on_seat_where, seat_for, unusable}

-- the request that did not leave the exchange
abbrev pub on_its : Exchange → (Seat → Seat) → Parts → Parts
on_its e f p = on_seat_where (seat_for e p.seats) f p

-- what forbids sharing is never shared: its row is cleared, and its request is decided again without it
abbrev pub not_shared : Exchange → Errand → Parts → Parts
not_shared e errand p = unusable e (on_its e (without_shared_row (attempts_in errand.is_asked_once)) (cleared_row e.number p))
