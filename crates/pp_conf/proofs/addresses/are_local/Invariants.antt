use Rattle.std.proofs.Common.{◌≡◌, filter_map}
use Rattle.std.specs.List.{list_all}
use Rattle.pp_conf.specs.Addresses.{is_local, range_of, ranges_of}
use Rattle.pp_conf.proofs.addresses.are_local.Given as goal

abbrev pub invariant-loop-item : goal.invariant-loop-item
invariant-loop-item l = list_all is_local (filter_map range_of l.item-iterator) ≡ list_all is_local (ranges_of l.fn.text)
