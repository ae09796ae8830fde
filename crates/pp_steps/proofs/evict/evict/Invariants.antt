use Rattle.std.proofs.Common.{◌≡◌, ◌≤◌}
use Rattle.pp_links.specs.Links.{IsLinked}
use Rattle.pp_links.specs.Quiet.{GrowsQuietly}
use Rattle.pp_steps.proofs.EvictingLemmas.{Evicts}
use Rattle.pp_steps.proofs.evict.evict.Given as goal

-- so many went at most, and are noted
abbrev pub invariant-loop-chunk : goal.invariant-loop-chunk
invariant-loop-chunk g l = record {
  linked : IsLinked (g.W.Logged.log l.world) (g.W.Logged.top l.world) l.links;
  quiet : GrowsQuietly (g.W.Logged.log l.fn.world) (g.W.Logged.log l.world);
  evicts : Evicts l._chunk l.pins.items l.floor l.fn.cache l.cache (g.W.Logged.log l.fn.world) (g.W.Logged.log l.world);
  faults : g.W.Logged.faults l.fn.world ≤ g.W.Logged.faults l.world;
  top : g.W.Logged.top l.world ≡ g.W.Logged.top l.fn.world;
}
