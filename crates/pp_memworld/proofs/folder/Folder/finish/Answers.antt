use Rattle.std.proofs.Common.{sym, subst, true}
use Rattle.pp_world.specs.declared.happening.Happening.TheVariants.{Did}
use Rattle.pp_world.specs.declared.op.DiskOp.{DiskOp}
use Rattle.pp_memworld.specs.Folder.{Hears}
use Rattle.pp_memworld.proofs.Failing.{hears_sync}
use Rattle.pp_memworld.proofs.Leaving.{on_ok}
use Rattle.pp_memworld.proofs.folder.Folder.finish.Goals as goal

pub returns-in-Sync : goal.returns-in-Sync
returns-in-Sync c = on_ok c.settle.result (λ changes. subst (λ (op : DiskOp). Hears (Did op true) c.args.self.now c.settle.new.self) (sym c.in-Sync.is)
    (hears_sync c.in-Sync.name c.args.self.now c.settle.new.self changes c.settle.ensures.draft c.settle.ensures.failed)) c.settle.ensures.slots
