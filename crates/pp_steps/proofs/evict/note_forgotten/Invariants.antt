use Rattle.std.proofs.Common.{◌≡◌, ◌≤◌, take}
use Rattle.pp_links.specs.Links.{IsLinked}
use Rattle.pp_links.specs.Quiet.{GrowsQuietly}
use Rattle.pp_world.specs.Log.{AppendsAll}
use Rattle.pp_steps.specs.Evicting.{forgotten_notes}
use Rattle.pp_steps.proofs.evict.note_forgotten.Given as goal

-- those before are noted
abbrev pub invariant-loop-place : goal.invariant-loop-place
invariant-loop-place g l = record {
  linked : IsLinked (g.W.Logged.log l.world) (g.W.Logged.top l.world) l.links;
  quiet : GrowsQuietly (g.W.Logged.log l.fn.world) (g.W.Logged.log l.world);
  told : AppendsAll (g.W.Logged.log l.fn.world) (g.W.Logged.log l.world) (λ k. forgotten_notes (take l.place l.keys));
  faults : g.W.Logged.faults l.fn.world ≤ g.W.Logged.faults l.world;
  top : g.W.Logged.top l.world ≡ g.W.Logged.top l.fn.world;
}
