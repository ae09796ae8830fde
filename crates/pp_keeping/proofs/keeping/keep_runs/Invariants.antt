use Rattle.std.proofs.Common.{◌≡◌, ◌≤◌, length}
use Rattle.pp_desk.specs.Anything.{anything}
use Rattle.pp_keeping.specs.Keeping.{ends_astray, keeping, KeepsRun}
use Rattle.pp_keeping.proofs.RepeatLemmas.{AreSoFar}
use Rattle.pp_links.specs.Links.{IsLinked}
use Rattle.pp_shelf.specs.Steady.{GrowsSteadily}
use Rattle.pp_store.specs.Held.{Holds}
use Rattle.pp_world.specs.Log.{Told}
use Rattle.pp_keeping.proofs.keeping.keep_runs.Given as goal

abbrev pub invariant-loop-run : goal.invariant-loop-run
invariant-loop-run g l = record {
  linked : IsLinked (g.W.Logged.log l.world) (g.W.Logged.top l.world) l.links;
  holds : Told (g.W.Logged.log l.world) (Holds anything l.shelf);
  steady : GrowsSteadily (g.W.Logged.log l.fn.world) (g.W.Logged.log l.world);
  is : AreSoFar ends_astray (KeepsRun l.id (length l.fn.desk.file.items)) 16386 l._run (keeping l.fn.desk.state l.fn.shelf (g.W.Logged.log l.fn.world) (g.W.Logged.faults l.fn.world)) (keeping l.desk.state l.shelf (g.W.Logged.log l.world) (g.W.Logged.faults l.world)) l.goes;
  rest : record l.desk { state = record l.desk.state { cache = l.fn.desk.state.cache; has_lost_draft = l.fn.desk.state.has_lost_draft; is_astray = l.fn.desk.state.is_astray }; file = l.fn.desk.file } ≡ l.fn.desk;
  long : length l.desk.file.items ≡ length l.fn.desk.file.items;
  top : g.W.Logged.top l.world ≡ g.W.Logged.top l.fn.world;
  faults : g.W.Logged.faults l.fn.world ≤ g.W.Logged.faults l.world;
}
