use Rattle.pp_laws_passed.proofs.FedHappenings.{passed_is_one}
use Rattle.pp_laws_passed.proofs.passed.passed_is_one_response.Goals as goal

pub returns : goal.returns
returns c = record { one = passed_is_one }
