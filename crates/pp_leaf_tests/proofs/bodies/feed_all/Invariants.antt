use Rattle.std.proofs.Common.{◌≤◌, length}
use Rattle.pp_leaf_tests.proofs.bodies.feed_all.Given as goal

abbrev pub invariant-loop-turn : goal.invariant-loop-turn
invariant-loop-turn l = l.used ≤ length l.bytes
