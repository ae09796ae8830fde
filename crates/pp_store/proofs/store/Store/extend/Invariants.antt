use Rattle.pp_store.specs.Kept.{block_of, row_of}
use Rattle.pp_store.proofs.store.Store.extend.Given as goal

abbrev pub ghost-seal_behind : goal.ghost-seal_behind
ghost-seal_behind g a = record { block = block_of (row_of a.key.now a.self.now).entry; sent = g.sent }
