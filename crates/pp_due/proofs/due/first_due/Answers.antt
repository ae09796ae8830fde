use Rattle.std.proofs.Common.{arith, ◌≡◌, ◌≤◌, ◌∙◌, subst, length, slice_get, Some, None}
use Rattle.std.proofs.lemmas.Grind.{common_steps}
use Rattle.pp_due.specs.Entering.{IsDueWithRow}
use Rattle.pp_due.proofs.EnteringLemmas.{awake_kept, due_here, due_later, due_never, past_end}
use Rattle.pp_due.proofs.due.first_due.Goals as goal

pub returns-in-Some-due_with_row : goal.returns-in-Some-due_with_row
returns-in-Some-due_with_row c =
    let here : slice_get c.loop-turn.state.awake.items c.loop-turn.turn ≡ Some c.in-Some.i = grind (arith, common_steps) in
    let at : slice_get c.args.state.now.awake.items c.loop-turn.turn ≡ Some c.in-Some.i = subst (λ v. slice_get v.items c.loop-turn.turn ≡ Some c.in-Some.i) c.loop-turn.invariant.awake here in
    let some : c.due_with_row.result ≡ Some c.in-Some-due_with_row.due = grind (arith, common_steps) in
    c.loop-turn.invariant.later c.due_with_row.new.state (Some (c.in-Some.i, c.in-Some-due_with_row.due))
    (due_here c.args.shelf.now c.args.state.now.awake.items c.loop-turn.turn c.in-Some.i c.loop-turn.state c.due_with_row.new.state c.in-Some-due_with_row.due at
    (subst (λ o. IsDueWithRow c.args.shelf.now c.in-Some.i c.loop-turn.state c.due_with_row.new.state o) some c.due_with_row.ensures))

pub loop-turn-preserved : goal.loop-turn-preserved
loop-turn-preserved c =
    let here : slice_get c.loop-turn.state.awake.items c.loop-turn.turn ≡ Some c.in-Some.i = grind (arith, common_steps) in
    let at : slice_get c.args.state.now.awake.items c.loop-turn.turn ≡ Some c.in-Some.i = subst (λ v. slice_get v.items c.loop-turn.turn ≡ Some c.in-Some.i) c.loop-turn.invariant.awake here in
    let none : c.due_with_row.result ≡ None = grind (arith, common_steps) in
    record {
      awake = awake_kept c.args.shelf.now c.in-Some.i c.loop-turn.state c.due_with_row.new.state c.due_with_row.result c.due_with_row.ensures ∙ c.loop-turn.invariant.awake;
      later = λ new found first. c.loop-turn.invariant.later new found
          (due_later c.args.shelf.now c.args.state.now.awake.items c.loop-turn.turn c.in-Some.i c.loop-turn.state c.due_with_row.new.state new c.due_with_row.result found at c.due_with_row.ensures none first);
    }

pub returns-after-loop-turn : goal.returns-after-loop-turn
returns-after-loop-turn c =
    let over : length c.args.state.now.awake.items ≤ c.loop-turn.turn = grind (arith, common_steps) in
    c.loop-turn.invariant.later c.loop-turn.state None (due_never c.args.shelf.now c.args.state.now.awake.items c.loop-turn.turn c.loop-turn.state (past_end c.args.state.now.awake.items c.loop-turn.turn over))

pub returns-in_default : goal.returns-in_default
returns-in_default c =
    let here : slice_get c.loop-turn.state.awake.items c.loop-turn.turn ≡ None = grind (arith, common_steps) in
    let at : slice_get c.args.state.now.awake.items c.loop-turn.turn ≡ None = subst (λ v. slice_get v.items c.loop-turn.turn ≡ None) c.loop-turn.invariant.awake here in
    c.loop-turn.invariant.later c.loop-turn.state None (due_never c.args.shelf.now c.args.state.now.awake.items c.loop-turn.turn c.loop-turn.state at)
