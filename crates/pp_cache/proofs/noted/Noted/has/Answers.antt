use Rattle.std.proofs.Common.{◌∙◌}
use Rattle.pp_cache.proofs.NotesLemmas.{noted-where-found}
use Rattle.pp_cache.proofs.noted.Noted.has.Goals as goal

pub returns : goal.returns
returns c = c.is_some.ensures ∙ rw (← c.self.view_is, ← c.deref.ensures.value) (noted-where-found _ _ c.place_of.result c.place_of.ensures.some c.place_of.ensures.none)
