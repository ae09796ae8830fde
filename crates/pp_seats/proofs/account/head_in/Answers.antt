use Rattle.std.proofs.Common.{◌≡◌, ap, sym, ◌∙◌}
use Rattle.std.proofs.lemmas.List.{take_rest}
use Rattle.pp_seats.proofs.HeadLens.{all_passed, ends, ends_here, goes_on}
use Rattle.pp_seats.proofs.account.head_in.Goals as goal

pub returns-then-starts_with : goal.returns-then-starts_with
returns-then-starts_with c = ends_here c.loop-at.at c.args.text.now c.loop-at.invariant (ap ends (sym (take_rest c.args.text.now c.loop-at.at)) ∙ (sym c.starts_with.ensures.value ∙ c.if-starts_with.true))

pub loop-at-preserved : goal.loop-at-preserved
loop-at-preserved c = goes_on c.loop-at.at c.args.text.now c.loop-at.invariant c.loop-at-test.true (ap ends (sym (take_rest c.args.text.now c.loop-at.at)) ∙ (sym c.starts_with.ensures.value ∙ c.if-starts_with.false))

pub returns : goal.returns
returns c = all_passed c.loop-at.at c.args.text.now c.loop-at.invariant c.loop-at-test.false c.loop-at.auto.at-end
