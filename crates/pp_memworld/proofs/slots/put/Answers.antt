use Rattle.pp_memworld.proofs.Standing.{put_at}
use Rattle.pp_memworld.proofs.slots.put.Goals as goal

pub returns-in-Ok-clause-changes : goal.returns-in-Ok-clause-changes
returns-in-Ok-clause-changes c = λ other. put_at c.args.name.now other c.args.slot c.args.slots.now c.insert.new.self (c.in-Ok.ensures.updates.0 other)
