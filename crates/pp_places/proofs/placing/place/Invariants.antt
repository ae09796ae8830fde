use Rattle.std.proofs.Common.{◌≡◌, ◌≤◌}
use Rattle.pp_links.specs.Links.{IsLinked}
use Rattle.pp_links.specs.Quiet.{GrowsQuietly}
use Rattle.pp_places.specs.Around.{around, moment_of}
use Rattle.pp_desk.specs.Closings.{KeepsDesk}
use Rattle.pp_places.proofs.PlacingLemmas.{AreSoFar}
use Rattle.pp_state.specs.Ends.{AreSeated, numbers_of}
use Rattle.pp_places.proofs.placing.place.Given as goal

abbrev pub invariant-loop-place : goal.invariant-loop-place
invariant-loop-place g l = record {
  linked : IsLinked (g.W.Logged.log l.world) (g.W.Logged.top l.world) l.links;
  quiet : GrowsQuietly (g.W.Logged.log l.fn.world) (g.W.Logged.log l.world);
  is : AreSeated l.fn.desk.state → AreSoFar 65536 l._place (moment_of l.fn.desk.state) l.after (around l.fn.desk l.fn.links (g.W.Logged.top l.fn.world)) (around l.desk l.links (g.W.Logged.top l.world)) (g.W.Logged.log l.fn.world) (g.W.Logged.log l.world) (g.W.Logged.faults l.fn.world) (g.W.Logged.faults l.world);
  numbers : numbers_of l.desk.state.seats.items ≡ numbers_of l.fn.desk.state.seats.items;
  rest : KeepsDesk l.fn.desk l.desk;
  faults : g.W.Logged.faults l.fn.world ≤ g.W.Logged.faults l.world;
}
