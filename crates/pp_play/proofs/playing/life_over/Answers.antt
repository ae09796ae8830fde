use Rattle.std.proofs.Common.{◌∙◌, ap}
use Rattle.pp_memworld.specs.MemWorld.{told_log}
use Rattle.pp_shelf.proofs.OpeningLemmas.{fresh_first}
use Rattle.pp_play.proofs.playing.life_over.Goals as goal

pub run-exit-requires : goal.run-exit-requires
run-exit-requires c = fresh_first _ (ap told_log (c.deref_mut.ensures.value ∙ c.in_ok-world.ensures) ∙ c.in_ok-new.ensures.told)
