use Rattle.pp_bodies_law.proofs.Bytes.{finishes}
use Rattle.pp_bodies_law.proofs.Ended.{closes, rests}
use Rattle.pp_bodies_law.proofs.passing.finishes_are_the_laws.Goals as goal

pub returns : goal.returns
returns c = record { finishes = finishes; rests = rests; closes = closes }
