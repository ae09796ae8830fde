use Rattle.std.proofs.Common.{[], refl, sym, ◌∙◌, ap}
use Rattle.std.proofs.lemmas.Option.{slice_get_read}
use Rattle.std.specs.Prelude.{length, option_and_then}
use Rattle.pp_state.specs.Pins.{pin_of_seat}
use Rattle.pp_state.proofs.PinLemmas.{gathered}
use Rattle.pp_steps.proofs.evict.pins_of_seats.Goals as goal

pub loop-index-preserved : goal.loop-index-preserved
loop-index-preserved c =
    let seats = c.args.seats.now in
    let i = c.loop-index.index in
    let seat = c.index-seats-index.result in
    let here = slice_get_read seats (length seats) i seat refl c.loop-index-test.true c.index-seats-index.is in
    gathered 320 pin_of_seat [] seats i c.loop-index.pins.items c.pin.new.pins.items c.pin_of_seat.result c.loop-index.invariant
    (c.pin_of_seat.ensures ∙ ap (option_and_then pin_of_seat) (sym here)) c.pin.ensures
