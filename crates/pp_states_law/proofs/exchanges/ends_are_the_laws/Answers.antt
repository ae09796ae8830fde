use Rattle.pp_states_law.proofs.Ended.{ends, unplaces}
use Rattle.pp_states_law.proofs.exchanges.ends_are_the_laws.Goals as goal

pub returns : goal.returns
returns c = record { unplaced = unplaces; ends = ends }
