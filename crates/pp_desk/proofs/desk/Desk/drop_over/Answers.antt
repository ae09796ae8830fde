use Rattle.std.proofs.Common.{List, subst, sym}
use Rattle.pp_desk.proofs.ClosingLemmas.{left_in_order}
use Rattle.pp_desk.proofs.desk.Desk.drop_over.Goals as goal
use Rattle.pp_seats.specs.declared.seat.Seat.{Seat}
use Rattle.pp_state.specs.Ends.{AreInOrder, numbers_of}

pub returns-clause-seated : goal.returns-clause-seated
returns-clause-seated c = λ seated. subst (λ (seats : List Seat). AreInOrder (numbers_of seats)) (sym c.drop_seats.ensures.seats) (left_in_order c.args.self.now.state seated)
