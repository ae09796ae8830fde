use Rattle.std.proofs.Common.{◌≡◌, ◌∙◌, ap, arith, sym}
use Rattle.std.proofs.lemmas.Grind.{common_steps}
use Rattle.pp_demo.specs.Generator.{next_state}
use Rattle.pp_demo.proofs.Steps.{state_behind-two}
use Rattle.pp_demo.proofs.asking.draw_range.Goals as goal

pub returns-in_default-clause-state : goal.returns-in_default-clause-state
returns-in_default-clause-state c =
    let two : c.args.form ≡ 2 = grind (arith, common_steps) in
    c.draw_below.ensures.state ∙ ap next_state c.draw-in_default.ensures.state ∙ sym (state_behind-two c.args.form c.args.generator.now.state two)
