use Rattle.pp_cache_law.proofs.Keeping.{drafts_of, keepings_of, losses_of, removals_of}
use Rattle.pp_cache_law.proofs.noting.extents_are_noted_as_the_laws.Goals as goal

pub returns : goal.returns
returns c = record { drafts = drafts_of; keepings = keepings_of; losses = losses_of; removals = removals_of }
