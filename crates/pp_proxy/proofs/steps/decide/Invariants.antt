use Rattle.std.proofs.Common.{◌≡◌, ◌≤◌}
use Rattle.pp_desk.specs.Closings.{KeepsDesk}
use Rattle.pp_links.specs.Links.{IsLinked}
use Rattle.pp_links.specs.Quiet.{GrowsQuietly}
use Rattle.pp_proxy.proofs.DecidingLemmas.{AreDecidedSoFar}
use Rattle.pp_proxy.specs.Moving.{moving}
use Rattle.pp_state.specs.Ends.{AreSeated, numbers_of}
use Rattle.pp_proxy.proofs.steps.decide.Given as goal

abbrev pub invariant-loop-due : goal.invariant-loop-due
invariant-loop-due g l = record {
  linked : IsLinked (g.W.Logged.log l.world) (g.W.Logged.top l.world) l.links;
  quiet : GrowsQuietly (g.W.Logged.log l.fn.world) (g.W.Logged.log l.world);
  is : AreSeated l.fn.desk.state → AreDecidedSoFar l._due l.shelf (moving l.fn.desk l.fn.links (g.W.Logged.top l.fn.world)) (moving l.desk l.links (g.W.Logged.top l.world)) l.is_any (g.W.Logged.log l.fn.world) (g.W.Logged.log l.world)
      (g.W.Logged.faults l.fn.world) (g.W.Logged.faults l.world);
  numbers : numbers_of l.desk.state.seats.items ≡ numbers_of l.fn.desk.state.seats.items;
  rest : KeepsDesk l.fn.desk (record l.desk { turned_away = l.fn.desk.turned_away });
  faults : g.W.Logged.faults l.fn.world ≤ g.W.Logged.faults l.world;
  top : g.W.Logged.top l.world ≡ g.W.Logged.top l.fn.world;
}
