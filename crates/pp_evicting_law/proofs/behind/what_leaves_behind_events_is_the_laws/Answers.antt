use Rattle.pp_evicting_law.proofs.Left.{leaving}
use Rattle.pp_evicting_law.proofs.behind.what_leaves_behind_events_is_the_laws.Goals as goal

pub returns : goal.returns
returns c = record { leaving = leaving }
