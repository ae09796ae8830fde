-- How what bytes change of the offsets in memory adds up.
use Rattle.std.proofs.Common.{ℕ, ◌≤◌, ◌∙◌, List, Option, arith}
use Rattle.pp_holes.specs.declared.cell.Cell.{Cell}
use Rattle.pp_holes.specs.Spans.{Grows}

pub grows_wider : (bs cs : List (Option Cell)) (m n : ℕ) → Grows bs cs m → m ≤ n → Grows bs cs n
grows_wider bs cs m n f le = record {
  kept = f.kept;
  behind = λ o far. f.behind o (omega arith);
}

pub grows_on : (bs cs ds : List (Option Cell)) (m n : ℕ) → Grows bs cs m → Grows cs ds n → m ≤ n → Grows bs ds n
grows_on bs cs ds m n f g le = record {
  kept = λ o h. g.kept o (f.kept o h);
  behind = λ o far. g.behind o far ∙ f.behind o (omega arith);
}
