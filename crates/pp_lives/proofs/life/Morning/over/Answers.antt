use Rattle.std.proofs.Common.{ap, ◌∙◌}
use Rattle.pp_memworld.specs.MemWorld.{told_log}
use Rattle.pp_lives.proofs.LifeLemmas.{new_wakes}
use Rattle.pp_lives.proofs.life.Morning.over.Goals as goal

pub invariant_of-result : goal.invariant_of-result
invariant_of-result c = new_wakes _ _ (ap told_log c.in-Ok.ensures.ok ∙ c.in_ok-made.ensures.told)
