-- Cells with nothing in memory agree with a pool that has no used chunk.
use Rattle.std.proofs.Common.{[], refl}
use Rattle.pp_holes.proofs.Agreement.{agrees_new}
use Rattle.pp_cache_tests.proofs.cells.Lone.new.Goals as goal

pub invariant_of-result : goal.invariant_of-result
invariant_of-result c = rw (c.in_ok-cells.ensures, c.in_ok-pool.ensures) (agrees_new 0 513 [] tt (λ i. refl), refl)
