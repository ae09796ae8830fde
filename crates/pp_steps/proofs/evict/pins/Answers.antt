use Rattle.std.proofs.Common.{◌∙◌, ap}
use Rattle.std.specs.List.{filter_map}
use Rattle.pp_state.specs.Pins.{exchanges_of, pin_of_entry, pin_of_seat, pins_of_seats}
use Rattle.pp_state.proofs.PinLemmas.{gathered, gathered_none}
use Rattle.pp_steps.proofs.evict.pins.Goals as goal

pub loop-index-init : goal.loop-index-init
loop-index-init c =
    c.pins_of_seats-pins.ensures ∙ ap pins_of_seats c.deref.ensures.value ∙ gathered_none 320 (filter_map pin_of_seat c.args.state.now.seats.items)

pub loop-index-preserved : goal.loop-index-preserved
loop-index-preserved c =
    gathered 320 (pin_of_entry c.args.state.now.cache.instances) (pins_of_seats c.args.state.now.seats.items) (exchanges_of c.args.state.now.flow) c.loop-index.index
    c.loop-index.pins.items c.pin.new.pins.items c.pin_at.result c.loop-index.invariant c.pin_at.ensures c.pin.ensures
