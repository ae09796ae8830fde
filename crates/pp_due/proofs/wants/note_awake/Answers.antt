use Rattle.std.proofs.Common.{◌∙◌}
use Rattle.pp_due.specs.Waits.{with_read, with_written}
use Rattle.pp_state.proofs.NumbersLemmas.{folded_next}
use Rattle.pp_due.proofs.wants.note_awake.Goals as goal

pub loop-i-preserved : goal.loop-i-preserved
loop-i-preserved c =
    let s = c.args.state.now in
    let w = c.args.wants.now in
    record {
      read = λ rises.
          folded_next (with_read s.seats.items) w.read.items c.loop-i.wants.read.items c.note_client.new.wants.read.items s.awake.items c.deref-i-items.result.now c.loop-i.i-index
          c.deref-i-items.ensures.value c.loop-i-test.true (c.loop-i.invariant.read rises) (c.note_client.ensures.read (c.loop-i.invariant.order rises));
      order = λ rises. c.note_client.ensures.order (c.loop-i.invariant.order rises);
      write =
          folded_next (with_written s) w.write.items c.loop-i.wants.write.items c.note_client.new.wants.write.items s.awake.items c.deref-i-items.result.now c.loop-i.i-index
          c.deref-i-items.ensures.value c.loop-i-test.true c.loop-i.invariant.write c.note_client.ensures.write;
      accept = c.note_client.ensures.accept ∙ c.loop-i.invariant.accept;
    }
