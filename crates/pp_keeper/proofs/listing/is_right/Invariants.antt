use Rattle.pp_keeper.proofs.listing.is_right.Given as goal
use Rattle.pp_keeper.specs.Anything.{anything}

-- nobody asks what was sent
abbrev pub ghost-load : goal.ghost-load
ghost-load g a = anything
