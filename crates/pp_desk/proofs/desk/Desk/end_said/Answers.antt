use Rattle.std.proofs.Common.{◌∙◌, ap, sym, subst, slice_get, List, ℕ, Option, arith}
use Rattle.pp_desk.specs.Closings.{sides}
use Rattle.pp_desk.specs.Replies.{EndsSaidIn}
use Rattle.pp_desk.specs.declared.desk.Desk.{Desk}
use Rattle.pp_state.specs.Ends.{AreInOrder}
use Rattle.pp_desk.proofs.ClosingLemmas.{kept_then}
use Rattle.pp_desk.proofs.ReplyLemmas.{all_ended, one_more}
use Rattle.pp_desk.proofs.desk.Desk.end_said.Goals as goal

pub loop-turn-preserved : goal.loop-turn-preserved
loop-turn-preserved g c =
    let old : Desk = c.args.self.now in
    let mid : Desk = c.loop-turn.self in
    let new : Desk = c.end_said_in_turn.new.self in
    let step = c.end_said_in_turn.ensures in
    let before = c.loop-turn.invariant in
    let In : Option ℕ → Type 0 = λ o. EndsSaidIn o (sides mid) (sides new) in
    record {
      linked = step.linked;
      told = step.told ∙ before.told;
      top = step.top ∙ before.top;
      faults = omega (arith, before.faults, step.faults);
      is = λ seated.
          one_more c.loop-turn.turn old.state.awake.items (sides old) (sides mid) (sides new) (before.is seated)
          (subst In (ap (λ (d : Desk). slice_get d.state.awake.items c.loop-turn.turn) before.rest) (step.is (subst (λ (ns : List ℕ). AreInOrder ns) (sym before.numbers) seated)));
      numbers = step.numbers ∙ before.numbers;
      rest = kept_then old mid new before.rest step.rest;
    }

pub returns-clause-is : goal.returns-clause-is
returns-clause-is g c = λ seated. all_ended c.loop-turn.turn c.args.self.now.state.awake.items (sides c.args.self.now) (sides c.loop-turn.self) (omega (arith, c.loop-turn-test.false, c.len-turn-end.ensures)) (c.loop-turn.invariant.is seated)
