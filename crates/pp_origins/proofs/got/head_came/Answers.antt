use Rattle.std.proofs.Common.{◌≡◌, ◌∙◌, sym, subst, ℕ, Option, Some}
use Rattle.pp_desk.specs.declared.desk.Desk.{Desk}
use Rattle.pp_origins.proofs.GotLemmas.{beside_numbers, still_seated}
use Rattle.pp_origins.specs.Gots.{HeadCameFor, both}
use Rattle.pp_state.specs.Ends.{parts}
use Rattle.pp_state.specs.Keys.{key_of}
use Rattle.pp_state.specs.Lines.{first_on}
use Rattle.pp_state.specs.declared.state.State.{State}
use Rattle.pp_origins.proofs.got.head_came.Goals as goal

pub returns-clause-is : goal.returns-clause-is
returns-clause-is c = λ seated.
    let old : Desk = c.args.desk.now in
    let shelf = c.args.shelf.now in
    let k = c.args.k in
    let number : ℕ = c.in-Some.number in
    let beside : State = c.bring_row_for.new.state in
    let row = c.bring_row_for.ensures in
    let first : first_on k (parts old.state) ≡ Some number = sym c.line.ensures ∙ c.in-Some.is in
    subst (λ (o : Option ℕ). HeadCameFor o shelf k (both old) (both c.answer.new.desk)) (sym first) (record {
      beside = beside;
      row = row;
      bounded = c.bounds.ensures;
      answers = c.answer.ensures.is (still_seated old.state beside (beside_numbers shelf (key_of number old.state.flow) old.state beside row) seated);
    })
