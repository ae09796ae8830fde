use Rattle.pp_cache_law.proofs.Framing.{beginnings_of, frames_of}
use Rattle.pp_cache_law.proofs.standing.tables_are_the_laws.Goals as goal

pub returns : goal.returns
returns c = record { beginnings = beginnings_of; frames = frames_of }
