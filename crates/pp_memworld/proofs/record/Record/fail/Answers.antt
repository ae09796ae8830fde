use Rattle.std.proofs.Common.{arith}
use Rattle.pp_memworld.proofs.Keeping.{kept_push}
use Rattle.pp_memworld.proofs.Ties.{tied_keep}
use Rattle.pp_memworld.proofs.record.Record.fail.Goals as goal

pub invariant_of-self : goal.invariant_of-self
invariant_of-self c = record {
  tied = tied_keep c.args.happening c.args.self.now.tied c.requires.connections c.push-self.ensures.told c.push-self.ensures.pushed (omega arith);
  kept = kept_push c.args.happening c.args.self.now.kept c.requires.files c.push-self.ensures.told c.push-self.ensures.pushed;
}
