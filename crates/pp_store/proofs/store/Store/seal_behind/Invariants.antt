use Rattle.pp_store.proofs.store.Store.seal_behind.Given as goal

abbrev pub ghost-seal : goal.ghost-seal
ghost-seal g a = g.claim'
