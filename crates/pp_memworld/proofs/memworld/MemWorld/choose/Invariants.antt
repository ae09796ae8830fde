use Rattle.pp_memworld.specs.MemWorld.{NoEndLeaves, SameCalls}
use Rattle.pp_memworld.specs.Record.{Stays}
use Rattle.pp_memworld.proofs.memworld.MemWorld.choose.Given as goal

abbrev pub invariant-loop : goal.invariant-loop
invariant-loop l = record { stays : Stays l.fn.self.record l.self.record; calls : SameCalls l.fn.self l.self; none_leaves : NoEndLeaves l.fn.self l.self }
