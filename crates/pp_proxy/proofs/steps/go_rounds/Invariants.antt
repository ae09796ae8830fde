use Rattle.std.proofs.Common.{◌≤◌}
use Rattle.pp_links.specs.Links.{IsLinked}
use Rattle.pp_links.specs.Quiet.{GrowsQuietly}
use Rattle.pp_proxy.proofs.RoundsLemmas.{AreRoundsSoFar}
use Rattle.pp_proxy.specs.Moving.{moving}
use Rattle.pp_state.specs.Ends.{AreSeated}
use Rattle.pp_proxy.proofs.steps.go_rounds.Given as goal

abbrev pub invariant-loop-round : goal.invariant-loop-round
invariant-loop-round g l = record {
  linked : IsLinked (g.W.Logged.log l.world) (g.W.Logged.top l.world) l.links;
  quiet : GrowsQuietly (g.W.Logged.log l.fn.world) (g.W.Logged.log l.world);
  is : AreSeated l.fn.desk.state → AreRoundsSoFar l._round l.shelf (moving l.fn.desk l.fn.links (g.W.Logged.top l.fn.world)) (moving l.desk l.links (g.W.Logged.top l.world)) l.is_decided (g.W.Logged.log l.fn.world) (g.W.Logged.log l.world)
      (g.W.Logged.faults l.fn.world) (g.W.Logged.faults l.world);
  seated : AreSeated l.fn.desk.state → AreSeated l.desk.state;
  faults : g.W.Logged.faults l.fn.world ≤ g.W.Logged.faults l.world;
}
