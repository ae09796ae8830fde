use Rattle.std.proofs.Common.{◌∙◌, ap}
use Rattle.pp_memworld.specs.MemWorld.{told_log}
use Rattle.pp_memworld.specs.Record.{record_log}
use Rattle.pp_shelf.proofs.OpeningLemmas.{fresh_first}
use Rattle.pp_exchanges.proofs.opened.open.Goals as goal

pub run-exit-requires : goal.run-exit-requires
run-exit-requires c =
    fresh_first _ (ap told_log (c.deref_mut.ensures.value ∙ c.in_ok-world-2.ensures) ∙ ap record_log c.set_config.ensures.record ∙ c.in_ok-world.ensures.told)
