use Rattle.pp_memworld.proofs.Failing.{added_at}
use Rattle.pp_memworld.proofs.folder.add.Goals as goal

pub returns-in-Ok : goal.returns-in-Ok
returns-in-Ok c = λ other. added_at c.args.name.now other c.args.names.now c.insert.new.self (c.in-Ok.ensures.updates.0 other)
