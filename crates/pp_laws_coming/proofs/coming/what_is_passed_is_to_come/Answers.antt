use Rattle.pp_laws_coming.proofs.Laws.{asks_told}
use Rattle.pp_laws_coming.proofs.coming.what_is_passed_is_to_come.Goals as goal

pub returns : goal.returns
returns c = record { told = asks_told }
