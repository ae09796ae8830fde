use Rattle.std.proofs.Common.{ap, ◌∙◌}
use Rattle.pp_head.specs.Shown.{shown_response}
use Rattle.pp_state.specs.Ends.{numbers_of, parts}
use Rattle.pp_answers.specs.FinalHeads.{roomed_for}
use Rattle.pp_state.specs.declared.state.State.{State}
use Rattle.pp_answers.proofs.AnswerLemmas.{still_seated}
use Rattle.pp_answers.proofs.answers.take_body.Goals as goal

pub returns-clause-is : goal.returns-clause-is
returns-clause-is c = λ ordered. record {
  between = parts c.take_by_aim.new.state;
  taken = c.take_by_aim.ensures.is ordered;
  noted = ap parts (c.note_body.ensures.is (still_seated c.args.state.now c.take_by_aim.new.state c.take_by_aim.ensures.numbers ordered));
}

pub returns-clause-numbers : goal.returns-clause-numbers
returns-clause-numbers c = ap (λ (s : State). numbers_of s.seats.items) c.note_body.ensures.rest ∙ c.take_by_aim.ensures.numbers

pub returns-clause-rest : goal.returns-clause-rest
returns-clause-rest c =
    let room = roomed_for c.args.e.now.aim c.args.errand.now (shown_response c.args.head.now) c.args.e.now.number c.args.state.now in
    ap (λ (s : State). record s { seats = room.seats; flow = room.flow; cache = room.cache; refused = room.refused; is_astray = room.is_astray }) c.note_body.ensures.rest ∙ c.take_by_aim.ensures.rest
