use Rattle.pp_links.specs.Links.{IsLinked}
use Rattle.pp_cache_tests.proofs.office.accept_all.Given as goal

abbrev pub invariant-loop : goal.invariant-loop
invariant-loop g l = IsLinked (g.W.Logged.log l.world) (g.W.Logged.top l.world) l.links
