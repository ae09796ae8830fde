use Rattle.pp_laws_passed.proofs.FedHappenings.{passed_is_all, pieces_join}
use Rattle.pp_laws_passed.proofs.passed.passed_is_all_that_came.Goals as goal

pub returns : goal.returns
returns c = record { all = passed_is_all; pieces = pieces_join }
