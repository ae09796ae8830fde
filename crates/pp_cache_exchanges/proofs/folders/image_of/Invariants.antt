use Rattle.pp_memworld.specs.Slots.{AreListed}
use Rattle.pp_cache_exchanges.proofs.folders.image_of.Given as goal

abbrev pub invariant-loop-file : goal.invariant-loop-file
invariant-loop-file l = AreListed l.image
