use Rattle.pp_answers_law.proofs.Taken.{own_answers, part_answers, passed_answers, rules}
use Rattle.pp_answers_law.proofs.taking.final_heads_are_the_laws.Goals as goal

pub returns : goal.returns
returns c = record { rules = rules; own = own_answers; passed = passed_answers; part = part_answers }
