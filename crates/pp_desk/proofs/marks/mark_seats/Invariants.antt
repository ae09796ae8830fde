use Rattle.std.proofs.Common.{◌≡◌}
use Rattle.pp_desk.specs.Marks.{marked_seat}
use Rattle.pp_state.proofs.SeatsLemmas.{front-mapped}
use Rattle.pp_desk.proofs.marks.mark_seats.Given as goal

abbrev pub invariant-loop-seat : goal.invariant-loop-seat
invariant-loop-seat l = l.seats ≡ front-mapped (marked_seat l.now) l.seat-index l.fn.seats
