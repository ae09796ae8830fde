use Rattle.pp_state.specs.Readers.{at_of, next_at}
use Rattle.pp_state.proofs.Walks.{further_next}
use Rattle.pp_state.proofs.state.State.furthest.Goals as goal

pub loop-i-preserved : goal.loop-i-preserved
loop-i-preserved c =
    let s = c.args.self.now in
    further_next (λ i. at_of c.args.id (next_at s.seats.items i)) s.awake.items c.deref-i-items.result.now c.loop-i.i-index c.loop-i.furthest c.further-furthest.result c.at_of.result
    c.deref-i-items.ensures.value c.loop-i-test.true c.loop-i.invariant c.at_of.ensures c.further-furthest.ensures
