use Rattle.std.proofs.Common.{ap, ◌∙◌}
use Rattle.pp_flow.specs.Errands.{attempts_in}
use Rattle.pp_seats.specs.Courses.{without_shared_row}
use Rattle.pp_answers.specs.Answers.{on_its}
use Rattle.pp_state.specs.Ends.{parts, unusable}
use Rattle.pp_answers.proofs.AnswerLemmas.{still_seated}
use Rattle.pp_answers.proofs.answers.not_shared.Goals as goal

pub returns-clause-is : goal.returns-clause-is
returns-clause-is c = λ ordered.
    let e = c.args.e.now in
    let first = still_seated c.args.state.now c.clear_row.new.self c.clear_row.ensures.numbers ordered in
    let second = still_seated c.clear_row.new.self c.lose_shared_row.new.state c.lose_shared_row.ensures.numbers first in
    c.unusable.ensures.is second
    ∙ ap (unusable e) (c.lose_shared_row.ensures.is first ∙ ap (λ n. on_its e (without_shared_row n) (parts c.clear_row.new.self)) c.attempts.ensures)
    ∙ ap (λ p. unusable e (on_its e (without_shared_row (attempts_in c.args.errand.now.is_asked_once)) p)) c.clear_row.ensures.is
