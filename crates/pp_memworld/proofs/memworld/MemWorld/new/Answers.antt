use Rattle.std.proofs.Common.{◌≡◌, ap, arith}
use Rattle.pp_world.specs.Connections.{top_of}
use Rattle.pp_memworld.proofs.memworld.MemWorld.new.Goals as goal

pub new-requires-2-clause-top : goal.new-requires-2-clause-top
unfolding top_of
new-requires-2-clause-top c = let none : top_of c.new.result.items ≡ 0 = ap top_of c.new.ensures.items in omega (arith, none)
