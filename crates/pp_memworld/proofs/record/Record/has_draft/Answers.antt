use Rattle.pp_memworld.proofs.Keeping.{told_draft}
use Rattle.pp_memworld.proofs.record.Record.has_draft.Goals as goal

pub returns : goal.returns
returns c = told_draft c.args.self.now.told c.args.self.now.log.items c.args.self.now.folder c.has_draft.result c.args.self.now.kept c.has_draft.ensures
