use Rattle.pp_cache_law.proofs.Leaving.{leavings_of}
use Rattle.pp_cache_law.proofs.Retiring.{retirings_of}
use Rattle.pp_cache_law.proofs.Twice.{sweeps_of}
use Rattle.pp_cache_law.proofs.changing.retired_ones_leave_as_the_laws.Goals as goal

pub returns : goal.returns
returns c = record { leavings = leavings_of; retirings = retirings_of; sweeps = sweeps_of }
