use Rattle.pp_shelf.proofs.shelf.Shelf.seal.Given as goal

-- what was sent is what the caller says
abbrev pub ghost-extend : goal.ghost-extend
ghost-extend g a = g.sent
