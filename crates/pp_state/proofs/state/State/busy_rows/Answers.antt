use Rattle.std.proofs.Common.{[]}
use Rattle.pp_state.specs.Pins.{busy_row, exchanges_of}
use Rattle.pp_state.proofs.PinLemmas.{gathered}
use Rattle.pp_state.proofs.state.State.busy_rows.Goals as goal

pub loop-index-preserved : goal.loop-index-preserved
loop-index-preserved c =
    gathered 64 busy_row [] (exchanges_of c.args.self.now.flow) c.loop-index.index c.loop-index.busy.items c.note_busy.new.busy.items c.busy_at.result
    c.loop-index.invariant c.busy_at.ensures c.note_busy.ensures
