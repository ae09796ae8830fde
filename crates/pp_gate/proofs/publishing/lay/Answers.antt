use Rattle.std.proofs.Common.{arith}
use Rattle.pp_gate.proofs.PlaceLemmas.{laid}
use Rattle.pp_gate.proofs.publishing.lay.Goals as goal

pub returns : goal.returns
returns c =
    laid c.args.block.now c.args.room.now c.args.at _ _ c.told-block (omega arith) (omega (arith, c.requires.gates)) c.put.new.room c.fill.new.room c.fill-2.new.room c.put.ensures c.fill.ensures c.fill-2.ensures
