use Rattle.pp_state.specs.Ends.{parts}
use Rattle.pp_answers.proofs.AnswerLemmas.{still_seated}
use Rattle.pp_answers.proofs.answers.part_head.Goals as goal

pub returns-clause-is : goal.returns-clause-is
returns-clause-is c = λ ordered. record {
  between = parts c.take_part.new.state;
  taken = c.take_part.ensures.is ordered;
  elsewhere = c.count_elsewhere.ensures.is (still_seated c.args.state.now c.take_part.new.state c.take_part.ensures.numbers ordered);
}
