use Rattle.std.proofs.Common.{◌≡◌}
use Rattle.std.specs.List.{list_all}
use Rattle.pp_text.specs.Lists.{items_of}
use Rattle.pp_conf.specs.Addresses.{is_range}
use Rattle.pp_conf.proofs.addresses.has_ranges.Given as goal

abbrev pub invariant-loop-item : goal.invariant-loop-item
invariant-loop-item l = list_all is_range l.item-iterator ≡ list_all is_range (items_of l.fn.text)
