use Rattle.std.proofs.Common.{◌≡◌, false, arith}
use Rattle.std.proofs.lemmas.Grind.{common_steps}
use Rattle.pp_flow.specs.Entries.{is_number}
use Rattle.pp_flow.proofs.First.{any-next}
use Rattle.pp_flow.proofs.lists.index_of.Goals as goal

pub loop-index-preserved : goal.loop-index-preserved
loop-index-preserved c =
    let other : is_number c.args.number c.index-list-index.result.value ≡ false = grind (arith, common_steps) in
    any-next (is_number c.args.number) c.args.list.now c.loop-index.index c.index-list-index.result c.loop-index-test.true c.index-list-index.is c.loop-index.invariant other
