use Rattle.std.proofs.Common.{◌≡◌, ◌-◌}
use Rattle.pp_holes.specs.Places.{shown}
use Rattle.pp_objects.specs.Agreement.{AllAgree}
use Rattle.pp_cache.specs.Uses.{used_run}
use Rattle.pp_cache.proofs.cache.touch_run.Given as goal

-- what is left to be used, of the pool as it is now, comes to what is asked for
abbrev pub invariant-loop-index : goal.invariant-loop-index
invariant-loop-index l = record {
  agrees : AllAgree l.objects.instances l.pool.used;
  size : l.pool.size ≡ l.fn.pool.size;
  used : used_run (l.to - l.index) l.id.slot l.index (shown l.pool.used) ≡ used_run (l.to - l.from) l.id.slot l.from (shown l.fn.pool.used);
}
