use Rattle.pp_laws_ends.proofs.Served.{placed_served, unplaced_served}
use Rattle.pp_laws_ends.proofs.ends.exchanges_are_served.Goals as goal

pub returns : goal.returns
returns c = record { unplaced = unplaced_served; placed = placed_served }
