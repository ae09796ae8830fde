use Rattle.std.proofs.Common.{take}
use Rattle.pp_memworld.specs.Folder.{Follows}
use Rattle.pp_memworld.proofs.crash.replayed.Given as goal

abbrev pub invariant-loop-happening : goal.invariant-loop-happening
invariant-loop-happening l = Follows (take l.happening-index l.log) l.folder
