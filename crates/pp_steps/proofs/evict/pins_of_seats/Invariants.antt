use Rattle.std.proofs.Common.{◌≡◌, take}
use Rattle.std.specs.List.{filter_map}
use Rattle.pp_state.specs.Pins.{pin_of_seat}
use Rattle.pp_steps.proofs.evict.pins_of_seats.Given as goal

abbrev pub invariant-loop-index : goal.invariant-loop-index
invariant-loop-index l = l.pins.items ≡ take 320 (filter_map pin_of_seat (take l.index l.seats))
