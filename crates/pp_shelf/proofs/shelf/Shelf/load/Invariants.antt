use Rattle.pp_shelf.proofs.shelf.Shelf.load.Given as goal

-- what was sent is what the caller says
abbrev pub ghost-load : goal.ghost-load
ghost-load g a = g.sent
