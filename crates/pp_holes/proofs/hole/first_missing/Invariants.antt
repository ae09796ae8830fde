use Rattle.std.proofs.Common.{◌-◌, ◌≡◌, ◌<◌, ◌≤◌, ℕ, true}
use Rattle.pp_holes.specs.Cells.{is_in_memory}
use Rattle.pp_holes.proofs.hole.first_missing.Given as goal

abbrev pub invariant-loop-from : goal.invariant-loop-from
invariant-loop-from l = record {
  behind : l.at ≤ l.from;
  within : l.from ≤ l.total;
  held : (o : ℕ) → l.at ≤ o → o < l.from → is_in_memory l.cells o ≡ true;
}

abbrev pub decreases-loop-from : goal.decreases-loop-from
decreases-loop-from l = l.total - l.from
