use Rattle.std.proofs.Common.{◌≡◌, ◌≤◌, take}
use Rattle.std.specs.List.{filter_map}
use Rattle.pp_links.specs.Links.{IsLinked}
use Rattle.pp_links.specs.Quiet.{GrowsQuietly}
use Rattle.pp_desk.specs.Shutting.{closings, over_at, without_all}
use Rattle.pp_world.specs.Log.{AppendsAll}
use Rattle.pp_desk.proofs.desk.Desk.shut_clients.Given as goal

abbrev pub invariant-loop-i : goal.invariant-loop-i
invariant-loop-i g l = record {
  linked : IsLinked (g.W.Logged.log l.world) (g.W.Logged.top l.world) l.links;
  quiet : GrowsQuietly (g.W.Logged.log l.fn.world) (g.W.Logged.log l.world);
  told : AppendsAll (g.W.Logged.log l.fn.world) (g.W.Logged.log l.world) (λ log. closings (filter_map (over_at l.self.state) (take l.i-index l.self.state.awake.items)) l.fn.links);
  links : l.links ≡ without_all (filter_map (over_at l.self.state) (take l.i-index l.self.state.awake.items)) l.fn.links;
  top : g.W.Logged.top l.world ≡ g.W.Logged.top l.fn.world;
  faults : g.W.Logged.faults l.fn.world ≤ g.W.Logged.faults l.world;
}
