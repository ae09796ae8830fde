use Rattle.pp_answers_law.proofs.Others.{others, parts}
use Rattle.pp_answers_law.proofs.Relayed.{relays}
use Rattle.pp_answers_law.proofs.passing.responses_are_passed_as_the_laws.Goals as goal

pub returns : goal.returns
returns c = record { relays = relays; others = others; parts = parts }
