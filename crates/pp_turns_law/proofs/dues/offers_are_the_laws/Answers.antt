use Rattle.pp_turns_law.proofs.Drying.{dry}
use Rattle.pp_turns_law.proofs.Offering.{offers}
use Rattle.pp_turns_law.proofs.dues.offers_are_the_laws.Goals as goal

pub returns : goal.returns
returns c = record { offers = offers; dry = dry }
