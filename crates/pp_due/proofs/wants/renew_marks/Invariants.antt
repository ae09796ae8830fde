use Rattle.std.proofs.Common.{◌≡◌}
use Rattle.pp_due.specs.Waits.{woken_seat}
use Rattle.pp_state.proofs.SeatsLemmas.{front-mapped}
use Rattle.pp_due.proofs.wants.renew_marks.Given as goal

abbrev pub invariant-loop-i : goal.invariant-loop-i
invariant-loop-i l = record {
  woken : l.state.seats.items ≡ front-mapped (woken_seat l.now l.fn.state) l.i l.fn.state.seats.items;
  rest : record l.state { seats = l.fn.state.seats } ≡ l.fn.state;
}
