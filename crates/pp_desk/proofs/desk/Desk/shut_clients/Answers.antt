use Rattle.std.proofs.Common.{◌∙◌, arith, get_or}
use Rattle.pp_links.proofs.QuietLemmas.{quiet_then}
use Rattle.pp_desk.specs.Shutting.{over_at}
use Rattle.pp_desk.proofs.ShuttingLemmas.{all_closed, all_left, at_number, closed_next, left_next}
use Rattle.pp_desk.proofs.desk.Desk.shut_clients.Goals as goal

pub loop-i-preserved : goal.loop-i-preserved
loop-i-preserved g c =
    let s = c.args.self.now.state in
    let ys = c.deref-i-items.result.now in
    let at = at_number s.awake.items ys c.loop-i.i-index c.deref-i-items.ensures.value c.loop-i-test.true in
    let step = c.shut.ensures in
    let before = c.loop-i.invariant in
    record {
      linked = step.linked;
      quiet = quiet_then before.quiet step.quiet;
      told = closed_next (over_at s) s.awake.items c.loop-i.i-index (get_or ys c.loop-i.i-index 0) c.args.links.now c.loop-i.links at before.told before.links step.told;
      links = left_next (over_at s) s.awake.items c.loop-i.i-index (get_or ys c.loop-i.i-index 0) c.args.links.now c.loop-i.links c.shut.new.links at before.links step.links;
      top = step.top ∙ before.top;
      faults = omega (arith, before.faults, step.faults);
    }

pub returns-clause-told : goal.returns-clause-told
returns-clause-told g c = all_closed (over_at c.args.self.now.state) c.args.self.now.state.awake.items c.deref-i-items.result.now c.loop-i.i-index c.args.links.now c.deref-i-items.ensures.value (omega (arith, c.loop-i-test.false)) c.loop-i.invariant.told

pub returns-clause-links : goal.returns-clause-links
returns-clause-links g c = all_left (over_at c.args.self.now.state) c.args.self.now.state.awake.items c.deref-i-items.result.now c.loop-i.i-index c.args.links.now c.loop-i.links c.deref-i-items.ensures.value (omega (arith, c.loop-i-test.false)) c.loop-i.invariant.links
