use Rattle.std.proofs.Common.{◌≡◌, true}
use Rattle.std.specs.Prelude.{IfSome}
use Rattle.pp_world.specs.Wire.{has_number}
use Rattle.pp_memworld.proofs.traffic.Traffic.lowest.Given as goal

abbrev pub invariant-loop-id : goal.invariant-loop-id
invariant-loop-id l = IfSome l.lowest (λ id. has_number id l.numbers ≡ true)
