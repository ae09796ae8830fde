use Rattle.pp_links.proofs.Keeping.{note_linked}
use Rattle.pp_links.proofs.links.Links.note.Goals as goal

pub returns-clause-linked : goal.returns-clause-linked
returns-clause-linked g c = note_linked _ _ _ _ c.requires c.note.ensures.told c.note.ensures.top
