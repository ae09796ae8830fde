use Rattle.std.proofs.Common.{◌≤◌, []}
use Rattle.pp_world.specs.Log.{Told}
use Rattle.pp_links.specs.Links.{IsLinked}
use Rattle.pp_links.specs.Quiet.{GrowsBy}
use Rattle.pp_store.specs.Held.{Holds}
use Rattle.pp_desk.specs.Anything.{anything}
use Rattle.pp_proxy.specs.Awaiting.{standing}
use Rattle.pp_run.proofs.TurnByTurn.{AreTurnsSoFar}
use Rattle.pp_run.specs.Serving.{GoesOn}
use Rattle.pp_run.proofs.serving.serve.Given as goal

abbrev pub invariant-loop-turn : goal.invariant-loop-turn
invariant-loop-turn g l = record {
  linked : IsLinked (g.W.Logged.log l.world) (g.W.Logged.top l.world) l.proxy.links;
  holds : Told (g.W.Logged.log l.world) (Holds anything l.shelf);
  goes : GrowsBy [] (GoesOn l._turn) (g.W.Logged.log l.fn.world) (g.W.Logged.log l.world);
  turns : AreTurnsSoFar l._turn l.most_turns (standing l.fn.shelf l.fn.proxy (g.W.Logged.top l.fn.world) (g.W.Logged.log l.fn.world) (g.W.Logged.faults l.fn.world)) (standing l.shelf l.proxy (g.W.Logged.top l.world) (g.W.Logged.log l.world) (g.W.Logged.faults l.world));
  faults : g.W.Logged.faults l.fn.world ≤ g.W.Logged.faults l.world;
}
