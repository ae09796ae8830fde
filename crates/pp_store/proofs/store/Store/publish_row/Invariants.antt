use Rattle.pp_store.proofs.store.Store.publish_row.Given as goal

abbrev pub ghost-publish : goal.ghost-publish
ghost-publish g a = g.sent
