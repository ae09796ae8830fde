use Rattle.pp_objects.proofs.Agreeing.{agree_same}
use Rattle.pp_cache_tests.proofs.cache.Cache.follow.Goals as goal

pub invariant_of-self : goal.invariant_of-self
invariant_of-self c = agree_same c.self.inside.objects.instances c.follow.new.self.instances c.self.inside.pool.used c.follow.ensures.cells c.self.invariant
