use Rattle.std.proofs.Common.{◌≡◌, false}
use Rattle.pp_recover.proofs.StrayLemmas.{strays_below}
use Rattle.pp_recover.proofs.strays.has_strays.Given as goal

abbrev pub invariant-loop-i : goal.invariant-loop-i
invariant-loop-i l = strays_below l.gates l.i ≡ false
