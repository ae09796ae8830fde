use Rattle.std.proofs.Common.{sym, ◌∙◌}
use Rattle.pp_links.proofs.Keeping.{link_open, read_linked}
use Rattle.pp_links.proofs.links.Links.read.Goals as goal

pub read-requires-clause-is_there : goal.read-requires-clause-is_there
read-requires-clause-is_there g c = link_open _ _ _ c.requires (sym c.has.ensures ∙ c.if-not-has.false)

pub returns-clause-linked : goal.returns-clause-linked
returns-clause-linked g c = read_linked _ _ _ _ _ _ c.requires c.read.ensures.told c.read.ensures.top
