use Rattle.std.proofs.Common.{◌≡◌, take}
use Rattle.std.specs.List.{filter_map}
use Rattle.pp_state.specs.Pins.{busy_row, exchanges_of}
use Rattle.pp_state.proofs.state.State.busy_rows.Given as goal

abbrev pub invariant-loop-index : goal.invariant-loop-index
invariant-loop-index l = l.busy.items ≡ take 64 (filter_map busy_row (take l.index (exchanges_of l.self.flow)))
