use Rattle.std.proofs.Common.{◌≢◌, ◌∙◌, ℕ, List, sym, arith}
use Rattle.pp_flow.specs.Changes.{line_of}
use Rattle.pp_desk.proofs.PlaceLemmas.{line_short, over, passed}
use Rattle.pp_desk.proofs.desk.Desk.place_on.Goals as goal

pub loop-place-preserved : goal.loop-place-preserved
loop-place-preserved c =
    let line : List ℕ = line_of c.args.k c.args.self.now.state.flow.placed in
    let differs : c.in_ok-other.other ≢ c.args.number = grind (arith, c.if-other-number.false) in
    passed c.args.number c.loop-place.place c.in_ok-other.other line c.loop-place.invariant (sym c.line.ensures ∙ c.in_ok-other.was) differs

pub returns : goal.returns
returns c =
    let placed = c.args.self.now.state.flow.placed in
    sym (over c.args.number c.loop-place.place (line_of c.args.k placed) (omega (arith, line_short c.args.k placed, c.loop-place-test.false, c.len-place-end.ensures.count)) c.loop-place.invariant)
