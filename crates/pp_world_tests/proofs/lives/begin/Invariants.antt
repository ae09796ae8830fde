use Rattle.pp_memworld.specs.Slots.{AreListed}
use Rattle.pp_world_tests.proofs.lives.begin.Given as goal

abbrev pub invariant-loop-file : goal.invariant-loop-file
invariant-loop-file l = AreListed l.image
