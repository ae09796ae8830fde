use Rattle.std.proofs.Common.{◌∙◌, ap}
use Rattle.pp_state.specs.Ends.{Parts, numbers_of, parts}
use Rattle.pp_desk.proofs.ClosingLemmas.{left_numbers}
use Rattle.pp_desk.proofs.desk.Desk.mark_closing.Goals as goal

pub returns-clause-numbers : goal.returns-clause-numbers
returns-clause-numbers c = c.set_closing.ensures.numbers ∙ ap (λ (p : Parts). numbers_of p.seats) c.leave_source.ensures.is ∙ left_numbers c.args.i (parts c.args.self.now.state)
