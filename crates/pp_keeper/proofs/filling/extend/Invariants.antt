use Rattle.pp_keeper.proofs.filling.extend.Given as goal
use Rattle.pp_keeper.specs.Anything.{anything}

-- nobody asks what was sent
abbrev pub ghost-extend : goal.ghost-extend
ghost-extend g a = anything
