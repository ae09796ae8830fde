use Rattle.pp_laws_decided.proofs.Laws.{turns_are_decided}
use Rattle.pp_laws_decided.proofs.decided.replies_are_decided.Goals as goal

pub returns : goal.returns
returns c = record { decided = turns_are_decided }
