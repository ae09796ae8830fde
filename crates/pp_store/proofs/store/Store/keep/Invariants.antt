use Rattle.pp_store.proofs.store.Store.keep.Given as goal

abbrev pub ghost-publish_row : goal.ghost-publish_row
ghost-publish_row g a = g.sent
