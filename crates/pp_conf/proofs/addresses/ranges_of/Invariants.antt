use Rattle.std.proofs.Common.{◌≡◌, ◌++◌, filter_map}
use Rattle.pp_conf.specs.Addresses.{range_of, ranges_of}
use Rattle.pp_conf.proofs.addresses.ranges_of.Given as goal

-- what is there and what is left give the whole
abbrev pub invariant-loop-item : goal.invariant-loop-item
invariant-loop-item l = l.ranges.items ++ filter_map range_of l.item-iterator ≡ ranges_of l.fn.text
