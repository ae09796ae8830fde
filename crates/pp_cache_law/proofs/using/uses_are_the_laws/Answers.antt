use Rattle.pp_cache_law.proofs.Touching.{evictions_of, touches_of, uses_of}
use Rattle.pp_cache_law.proofs.using.uses_are_the_laws.Goals as goal

pub returns : goal.returns
returns c = record { uses = uses_of; touches = touches_of; evictions = evictions_of }
