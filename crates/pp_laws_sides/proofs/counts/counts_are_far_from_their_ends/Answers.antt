use Rattle.pp_laws_sides.proofs.Counted.{counts_far}
use Rattle.pp_laws_sides.proofs.counts.counts_are_far_from_their_ends.Goals as goal

pub returns : goal.returns
returns c = record { far = counts_far }
