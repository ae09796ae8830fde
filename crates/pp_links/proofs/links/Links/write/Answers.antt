use Rattle.std.proofs.Common.{sym, ◌∙◌}
use Rattle.pp_links.proofs.Keeping.{link_open, write_linked}
use Rattle.pp_links.proofs.links.Links.write.Goals as goal

pub write-requires-clause-is_there : goal.write-requires-clause-is_there
write-requires-clause-is_there g c = link_open _ _ _ c.requires (sym c.has.ensures ∙ c.if-not-has.false)

pub returns-clause-linked : goal.returns-clause-linked
returns-clause-linked g c = write_linked _ _ _ _ _ _ c.requires c.write.ensures.told c.write.ensures.top
