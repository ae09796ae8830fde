use Rattle.pp_shelf.proofs.shelf.Shelf.withdraw.Given as goal

-- what was sent is what the caller says
abbrev pub ghost-withdraw : goal.ghost-withdraw
ghost-withdraw g a = g.sent
