use Rattle.std.proofs.Common.{◌≡◌, ◌+◌, ◌≤◌, length, drop}
use Rattle.pp_text.specs.Fields.{values_of}
use Rattle.pp_text.proofs.fields.Fields.count.Given as goal

abbrev pub invariant-loop-index : goal.invariant-loop-index
invariant-loop-index l = record {
  few : l.count ≤ l.index;
  left : l.count + length (values_of l.name (drop l.index l.self)) ≡ length (values_of l.name l.self);
}
