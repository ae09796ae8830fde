use Rattle.pp_shelf.proofs.shelf.Shelf.draft.Given as goal

-- what was sent is what the caller says
abbrev pub ghost-keep : goal.ghost-keep
ghost-keep g a = g.sent
