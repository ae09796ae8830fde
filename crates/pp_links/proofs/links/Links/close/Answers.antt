use Rattle.std.proofs.Common.{sym, ◌∙◌}
use Rattle.pp_links.proofs.Closing.{close_linked, without_absent}
use Rattle.pp_links.proofs.Keeping.{link_open}
use Rattle.pp_links.proofs.links.Links.close.Goals as goal

pub close-requires : goal.close-requires
close-requires g c = record { is_there = link_open _ _ _ c.requires (sym c.has.ensures ∙ c.if-has.true) }

pub returns-then-has-clause-linked : goal.returns-then-has-clause-linked
returns-then-has-clause-linked g c = rw c.leave.ensures (close_linked _ _ _ _ c.requires c.close.ensures.told c.close.ensures.top)

pub returns-else-has-clause-links : goal.returns-else-has-clause-links
returns-else-has-clause-links g c = sym (without_absent _ _ (sym c.has.ensures ∙ c.if-has.false))
