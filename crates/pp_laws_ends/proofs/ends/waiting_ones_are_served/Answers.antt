use Rattle.pp_laws_ends.proofs.Waiting.{followers_served, owners_served}
use Rattle.pp_laws_ends.proofs.ends.waiting_ones_are_served.Goals as goal

pub returns : goal.returns
returns c = record { followers = followers_served; owners = owners_served }
