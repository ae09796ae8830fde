use Rattle.std.proofs.Common.{◌≡◌, drop}
use Rattle.pp_entry.specs.Fields.{are_in_order}
use Rattle.pp_entry.proofs.allowed.are_in_order.Given as goal

abbrev pub invariant-loop-index : goal.invariant-loop-index
invariant-loop-index l = are_in_order l.before (drop l.index l.fields) ≡ are_in_order 0 l.fields
