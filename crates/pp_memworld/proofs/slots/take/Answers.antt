use Rattle.pp_memworld.proofs.Standing.{left_at}
use Rattle.pp_memworld.proofs.slots.take.Goals as goal

pub returns-in-Some-clause-others : goal.returns-in-Some-clause-others
returns-in-Some-clause-others c = λ other differs. left_at c.args.name.now other c.args.slots.now c.remove.new.self (c.in-Some.ensures.updates.0 other) differs
