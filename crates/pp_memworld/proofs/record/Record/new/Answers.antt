use Rattle.pp_memworld.proofs.Keeping.{kept_woke}
use Rattle.pp_memworld.proofs.Ties.{tied_new}
use Rattle.pp_memworld.proofs.record.Record.new.Goals as goal

pub invariant_of-result : goal.invariant_of-result
invariant_of-result c = record {
  tied = tied_new c.args.log.items c.args.image c.requires.top c.in_ok-log.ensures c.new.ensures.empty;
  kept = kept_woke c.args.log.items c.args.image c.requires.sound c.requires.listed c.in_ok-log.ensures c.new-folder.ensures c.in_ok-wake.ensures.hears c.in_ok-wake.ensures.rests;
}
