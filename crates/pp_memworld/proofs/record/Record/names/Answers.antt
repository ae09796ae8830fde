use Rattle.pp_memworld.proofs.Keeping.{told_names}
use Rattle.pp_memworld.proofs.Leaving.{for_ok}
use Rattle.pp_memworld.proofs.record.Record.names.Goals as goal

pub returns-clause-names : goal.returns-clause-names
returns-clause-names c = for_ok c.names.result (λ names listed. told_names c.args.self.now.told c.args.self.now.log.items c.args.self.now.folder names.items c.args.self.now.kept listed) c.names.ensures.listed
