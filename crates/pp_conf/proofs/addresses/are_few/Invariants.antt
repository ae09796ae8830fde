use Rattle.std.proofs.Common.{◌≡◌, ◌+◌, ◌≤◌, length}
use Rattle.pp_text.specs.Lists.{items_of}
use Rattle.pp_conf.proofs.addresses.are_few.Given as goal

-- those that were counted and those that are left are all
abbrev pub invariant-loop-item : goal.invariant-loop-item
invariant-loop-item l = record {
  all : l.count + length l._item-iterator ≡ length (items_of l.fn.text);
  few : l.count ≤ 16;
}
