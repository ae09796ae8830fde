use Rattle.std.proofs.Common.{◌≡◌, ◌≤◌, take}
use Rattle.std.specs.List.{filter_map}
use Rattle.pp_links.specs.Links.{IsLinked}
use Rattle.pp_links.specs.Quiet.{GrowsQuietly}
use Rattle.pp_desk.specs.Shutting.{closings, over_peer, without_all}
use Rattle.pp_world.specs.Log.{AppendsAll}
use Rattle.pp_desk.proofs.desk.Desk.drop_origins.Given as goal

abbrev pub invariant-loop-peer : goal.invariant-loop-peer
invariant-loop-peer g l = record {
  linked : IsLinked (g.W.Logged.log l.world) (g.W.Logged.top l.world) l.links;
  quiet : GrowsQuietly (g.W.Logged.log l.fn.world) (g.W.Logged.log l.world);
  told : AppendsAll (g.W.Logged.log l.fn.world) (g.W.Logged.log l.world) (λ log. closings (filter_map (over_peer l.self.state.is_stopped) (take l.peer-index l.self.peers)) l.fn.links);
  links : l.links ≡ without_all (filter_map (over_peer l.self.state.is_stopped) (take l.peer-index l.self.peers)) l.fn.links;
  top : g.W.Logged.top l.world ≡ g.W.Logged.top l.fn.world;
  faults : g.W.Logged.faults l.fn.world ≤ g.W.Logged.faults l.world;
}
