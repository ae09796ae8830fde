use Rattle.std.proofs.Common.{◌≡◌}
use Rattle.pp_state.specs.Ends.{decided_anew}
use Rattle.pp_state.proofs.SeatsLemmas.{front-mapped}
use Rattle.pp_state.proofs.rows.decide_all_anew.Given as goal

abbrev pub invariant-loop-seat : goal.invariant-loop-seat
invariant-loop-seat l = l.seats ≡ front-mapped (decided_anew l.key) l.seat-index l.fn.seats
