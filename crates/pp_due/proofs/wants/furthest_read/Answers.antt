use Rattle.pp_state.specs.Readers.{next_at, read_at}
use Rattle.pp_state.proofs.Walks.{further_next}
use Rattle.pp_due.proofs.wants.furthest_read.Goals as goal

pub loop-i-preserved : goal.loop-i-preserved
loop-i-preserved c =
    let s = c.args.state.now in
    further_next (λ i. read_at c.args.id c.args.from c.args.all s.cache (next_at s.seats.items i)) s.awake.items c.deref-i-items.result.now c.loop-i.i-index c.loop-i.furthest c.further-furthest.result
    c.read_at.result c.deref-i-items.ensures.value c.loop-i-test.true c.loop-i.invariant c.read_at.ensures c.further-furthest.ensures
