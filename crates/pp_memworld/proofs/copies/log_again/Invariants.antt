use Rattle.std.proofs.Common.{◌≡◌, take}
use Rattle.pp_memworld.proofs.copies.log_again.Given as goal

abbrev pub invariant-loop-happening : goal.invariant-loop-happening
invariant-loop-happening l = l.copied.items ≡ take l.happening-index l.log
