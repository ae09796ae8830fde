use Rattle.std.proofs.Common.{◌∙◌, sym, arith, Some}
use Rattle.pp_flow.specs.Changes.{entry_of, line_of}
use Rattle.pp_state.specs.Asking.{is_left}
use Rattle.pp_state.proofs.Walks.{found_there, none_found_next, none_of_fewer}
use Rattle.pp_state.proofs.state.State.asked_next.Goals as goal

pub returns-then-is_left : goal.returns-then-is_left
returns-then-is_left c =
    let f = c.args.self.now.flow in
    sym (found_there (λ n. is_left (entry_of n f)) (line_of c.args.k f.placed) c.loop-place.place 16 c.in_ok-number.number c.loop-place-test.true (sym c.in_ok-number.was ∙ c.line.ensures) c.loop-place.invariant
    (sym c.is_left.ensures ∙ c.if-is_left.true))

pub loop-place-preserved : goal.loop-place-preserved
loop-place-preserved c =
    let f = c.args.self.now.flow in
    none_found_next (λ n. is_left (entry_of n f)) (line_of c.args.k f.placed) c.loop-place.place (Some c.in_ok-number.number) (sym c.in_ok-number.was ∙ c.line.ensures) c.loop-place.invariant
    (sym c.is_left.ensures ∙ c.if-is_left.false)

pub returns : goal.returns
returns c =
    let f = c.args.self.now.flow in
    sym (none_of_fewer (λ n. is_left (entry_of n f)) (line_of c.args.k f.placed) 16 c.loop-place.place (omega (arith, c.loop-place-test.false)) c.loop-place.invariant)
