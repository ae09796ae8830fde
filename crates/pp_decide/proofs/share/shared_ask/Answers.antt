use Rattle.std.proofs.Common.{◌++◌, arith, Some, None}
use Rattle.std.proofs.lemmas.Grind.{common_steps}
use Rattle.pp_decide.proofs.SharingLemmas.{first_next, no_more, one_more}
use Rattle.pp_decide.proofs.share.shared_ask.Goals as goal
use Rattle.pp_decide.proofs.share.shared_ask.Goals.{in-Some+then-is_shared, in-Some+else-is_shared, in_default}

pub loop-index-preserved : goal.loop-index-preserved
loop-index-preserved c =
    let f = c.args.state.now.flow in
    let key = c.in_ok-key.key.now.text.items in
    let all = f.waiting ++ f.placed in
    let i = c.loop-index.index in
    let before = c.loop-index.first in
    let after = c.match-at.first in
    elim c.match-at.branch [
      | in-Some+then-is_shared w ↦ first_next key all i (Some w.in-Some.entry.now) before after (grind (arith, common_steps)) c.loop-index.invariant
          (one_more key w.in-Some.entry.now before after w.earlier.result (grind (arith, common_steps)) w.first-is w.earlier.ensures)
      | in-Some+else-is_shared w ↦ first_next key all i (Some w.in-Some.entry.now) before after (grind (arith, common_steps)) c.loop-index.invariant
          (no_more key w.in-Some.entry.now before after (grind (arith, common_steps)) w.first-is)
      | in_default w ↦ first_next key all i None before after (grind (arith, common_steps)) c.loop-index.invariant w.first-is
    ]
