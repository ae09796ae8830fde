use Rattle.std.proofs.Common.{arith}
use Rattle.pp_wants.specs.Rests.{rested_peer}
use Rattle.pp_desk.proofs.PeersLemmas.{fronted_next, fronted_whole}
use Rattle.pp_wants.proofs.wants.rest_origins.Goals as goal

pub loop-place-preserved : goal.loop-place-preserved
loop-place-preserved c =
    fronted_next (rested_peer c.args.clients c.args.wants.now c.args.now) c.loop-place.place c.args.peers.now c.loop-place.peers c.rest_at.new.peers c.loop-place.invariant (omega (arith, c.loop-place-test.true, c.len-place-end.ensures.count)) c.rest_at.ensures

pub returns : goal.returns
returns c =
    fronted_whole (rested_peer c.args.clients c.args.wants.now c.args.now) c.loop-place.place c.args.peers.now c.loop-place.peers (omega (arith, c.loop-place-test.false, c.len-place-end.ensures.count)) (omega (arith, c.loop-place.auto.place-end, c.len-place-end.ensures.count))
    c.loop-place.invariant
