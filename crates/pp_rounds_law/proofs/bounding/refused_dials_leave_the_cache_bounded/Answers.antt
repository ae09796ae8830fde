use Rattle.pp_rounds_law.proofs.Bounded.{ended_bounded, filled_bounded, lost_bounded, refused_bounded, retired_bounded}
use Rattle.pp_rounds_law.proofs.bounding.refused_dials_leave_the_cache_bounded.Goals as goal

pub returns : goal.returns
returns c = record { rows = retired_bounded; losses = lost_bounded; ends = ended_bounded; asks = filled_bounded; refusals = refused_bounded }
