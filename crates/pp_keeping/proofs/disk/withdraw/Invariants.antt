use Rattle.pp_desk.specs.Anything.{anything}
use Rattle.pp_keeping.proofs.disk.withdraw.Given as goal

-- nobody asks what was sent
abbrev pub ghost-withdraw : goal.ghost-withdraw
ghost-withdraw g a = anything
