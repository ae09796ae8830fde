use Rattle.pp_links.proofs.Keeping.{undialled_linked}
use Rattle.pp_links.proofs.Opening.{dial_linked}
use Rattle.pp_links.proofs.links.Links.dial.Goals as goal

pub returns-in_err-k-clause-linked : goal.returns-in_err-k-clause-linked
returns-in_err-k-clause-linked g c = undialled_linked _ _ _ _ _ c.requires c.in_err-k.ensures.told c.in_err-k.ensures.top

pub returns-clause-linked : goal.returns-clause-linked
returns-clause-linked g c = rw c.join.ensures (dial_linked _ _ _ _ _ _ c.requires c.in_ok-k.ensures.told c.in_ok-k.ensures.number.above c.in_ok-k.ensures.top)
