use Rattle.std.proofs.Common.{length}
use Rattle.pp_cache.proofs.BoundsLemmas.{cells_of, ends_of, few_of, fronts_of, slots_of}
use Rattle.pp_cache.proofs.cache.Cache.bounds.Goals as goal

pub returns : goal.returns
returns c = rw (← c.self.view_is) (record {
  slots = slots_of c.self.inside.objects.instances (length c.self.inside.extents.items) c.self.invariant.1 c.bounds.ensures.slots;
  fronts = fronts_of c.self.inside.objects.instances c.self.inside.pool.used c.self.invariant.0;
  ends = ends_of c.self.inside.objects.instances c.self.inside.pool.used c.self.invariant.0 c.bounds.ensures.ends;
  cells = cells_of c.self.inside.objects.instances c.self.inside.pool.used c.self.invariant.0 c.bounds.ensures.ends;
  few = few_of c.self.inside.pool.used c.self.inside.pool.size c.used.ensures.within;
})
