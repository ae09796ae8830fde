use Rattle.std.proofs.Common.{◌++◌, arith, sym, Some}
use Rattle.std.specs.Prelude.{option_map}
use Rattle.std.proofs.lemmas.Grind.{common_steps}
use Rattle.pp_state.specs.Bringing.{brings}
use Rattle.pp_state.proofs.Walks.{none_next, some_at}
use Rattle.pp_state.proofs.state.State.is_brought.Goals as goal
use Rattle.pp_state.proofs.state.State.is_brought.Goals.{in-Some+else-brings, in_default}

pub returns-then-brings : goal.returns-then-brings
returns-then-brings c =
    let n = c.args.next.now in
    let m = c.args.self.now.cache in
    let f = c.args.self.now.flow in
    sym (some_at (brings n.source n.at m) (f.waiting ++ f.placed) c.loop-index.index (Some c.in-Some.entry.now) (grind (arith, common_steps)) (grind (arith, common_steps)))

pub loop-index-preserved : goal.loop-index-preserved
loop-index-preserved c =
    let n = c.args.next.now in
    let m = c.args.self.now.cache in
    let f = c.args.self.now.flow in
    let x = option_map (λ e. e.now) c.at.result in
    none_next (brings n.source n.at m) (f.waiting ++ f.placed) c.loop-index.index x c.at.ensures c.loop-index.invariant
    (elim c.match-at.branch [ in-Some+else-brings w ↦ grind (arith, common_steps) | in_default w ↦ grind (arith, common_steps) ])
