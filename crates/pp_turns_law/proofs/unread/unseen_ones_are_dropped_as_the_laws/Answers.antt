use Rattle.pp_turns_law.proofs.AllSeen.{all_drop}
use Rattle.pp_turns_law.proofs.Seen.{drops_on}
use Rattle.pp_turns_law.proofs.unread.unseen_ones_are_dropped_as_the_laws.Goals as goal

pub returns : goal.returns
returns c = record { drops = drops_on; unseen = all_drop }
