use Rattle.std.proofs.Common.{◌∙◌, arith}
use Rattle.pp_links.proofs.QuietLemmas.{quiet_then}
use Rattle.pp_desk.specs.Shutting.{over_peer}
use Rattle.pp_desk.proofs.ShuttingLemmas.{all_closed, all_left, at_item, closed_next, left_next}
use Rattle.pp_desk.proofs.desk.Desk.drop_origins.Goals as goal

pub loop-peer-preserved : goal.loop-peer-preserved
loop-peer-preserved g c =
    let d = c.args.self.now in
    let ys = c.as_slice-peer-items.result.now in
    let x = c.peer-item.result in
    let at = at_item d.peers ys c.loop-peer.peer-index x c.as_slice-peer-items.ensures c.loop-peer-test.true c.peer-item.is in
    let step = c.drop_if_over.ensures in
    let before = c.loop-peer.invariant in
    record {
      linked = step.linked;
      quiet = quiet_then before.quiet step.quiet;
      told = closed_next (over_peer d.state.is_stopped) d.peers c.loop-peer.peer-index x c.args.links.now c.loop-peer.links at before.told before.links step.told;
      links = left_next (over_peer d.state.is_stopped) d.peers c.loop-peer.peer-index x c.args.links.now c.loop-peer.links c.drop_if_over.new.links at before.links step.links;
      top = step.top ∙ before.top;
      faults = omega (arith, before.faults, step.faults);
    }

pub returns-clause-told : goal.returns-clause-told
returns-clause-told g c = all_closed (over_peer c.args.self.now.state.is_stopped) c.args.self.now.peers c.as_slice-peer-items.result.now c.loop-peer.peer-index c.args.links.now c.as_slice-peer-items.ensures (omega (arith, c.loop-peer-test.false)) c.loop-peer.invariant.told

pub returns-clause-links : goal.returns-clause-links
returns-clause-links g c = all_left (over_peer c.args.self.now.state.is_stopped) c.args.self.now.peers c.as_slice-peer-items.result.now c.loop-peer.peer-index c.args.links.now c.loop-peer.links c.as_slice-peer-items.ensures (omega (arith, c.loop-peer-test.false)) c.loop-peer.invariant.links
