use Rattle.std.proofs.Common.{◌≡◌, fold}
use Rattle.pp_framing.specs.Framing.{coding_of, with_coding}
use Rattle.pp_framing.proofs.framing.transfer_coding.Given as goal

abbrev pub invariant-loop-item : goal.invariant-loop-item
invariant-loop-item l = fold with_coding l.coding l.item-iterator ≡ coding_of l.fn.fields
