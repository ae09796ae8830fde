use Rattle.pp_waits_law.proofs.Wanted.{accepts_wanted, asks_wanted, gets_wanted}
use Rattle.pp_waits_law.proofs.wanting.accepts_and_origins_are_wanted.Goals as goal

pub returns : goal.returns
returns c = record { accepts = accepts_wanted; asks = asks_wanted; gets = gets_wanted }
