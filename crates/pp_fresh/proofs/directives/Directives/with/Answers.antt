use Rattle.pp_fresh.proofs.directives.Directives.with.Goals as goal

pub returns : goal.returns
returns c = simp (c.is.ensures, c.is-2.ensures, c.is-3.ensures, c.is-4.ensures, c.lesser.ensures, c.lesser-2.ensures, c.lesser-3.ensures, c.seconds.ensures, c.seconds-2.ensures, c.seconds-3.ensures, c.read-directive.ensures.name, c.read-directive.ensures.argument)
