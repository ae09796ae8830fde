use Rattle.std.proofs.Common.{◌≡◌, take}
use Rattle.pp_state.specs.Ends.{all_regained}
use Rattle.pp_state.proofs.state.regain_all.Given as goal

abbrev pub invariant-loop-i : goal.invariant-loop-i
invariant-loop-i l = l.seats ≡ all_regained l.cache (take l.i-index l.places) l.fn.seats
