use Rattle.std.proofs.Common.{◌≡◌, ◌++◌, take}
use Rattle.std.specs.List.{filter_map}
use Rattle.pp_state.specs.Pins.{exchanges_of, pin_of_entry, pins_of_seats}
use Rattle.pp_steps.proofs.evict.pins.Given as goal

abbrev pub invariant-loop-index : goal.invariant-loop-index
invariant-loop-index l =
    l.pins.items ≡ take 320 (pins_of_seats l.state.seats.items ++ filter_map (pin_of_entry l.state.cache.instances) (take l.index (exchanges_of l.state.flow)))
