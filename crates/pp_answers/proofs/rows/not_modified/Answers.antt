use Rattle.std.proofs.Common.{◌≡◌, ◌∙◌, ap, sym}
use Rattle.pp_head.specs.Shown.{shown_response}
use Rattle.pp_state.specs.Ends.{made_useless, parts}
use Rattle.pp_answers.specs.Heads.{told_unchanged}
use Rattle.pp_answers.specs.Rows.{not_modified_as}
use Rattle.pp_state.specs.Known.{row_for}
use Rattle.pp_answers.specs.declared.rows.Unchanged.TheVariants.{OfAnother}
use Rattle.pp_answers.proofs.AnswerLemmas.{still_seated}
use Rattle.pp_answers.proofs.rows.not_modified.Goals as goal

pub returns-in-OfAnother-clause-is : goal.returns-in-OfAnother-clause-is
returns-in-OfAnother-clause-is c = λ ordered.
    let s = c.args.state.now in
    let e = c.args.e.now in
    let errand = c.args.errand.now in
    let head = shown_response c.args.head.now in
    let is : told_unchanged head.fields errand.kind (row_for e.number (parts s)) ≡ OfAnother =
    ap (told_unchanged head.fields errand.kind) (sym c.row_of.ensures) ∙ sym c.told_unchanged.ensures ∙ c.in-OfAnother.is in
    c.useless.ensures.is (still_seated s c.clear_row.new.self c.clear_row.ensures.numbers ordered)
    ∙ ap (made_useless e) c.clear_row.ensures.is
    ∙ ap (λ u. not_modified_as e errand head s.now u (parts s)) (sym is)
