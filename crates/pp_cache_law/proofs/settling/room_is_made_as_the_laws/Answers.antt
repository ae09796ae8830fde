use Rattle.pp_cache_law.proofs.GivingWay.{enterings_with_room_of}
use Rattle.pp_cache_law.proofs.Refusing.{refusals_of}
use Rattle.pp_cache_law.proofs.Rooming.{makings_of}
use Rattle.pp_cache_law.proofs.settling.room_is_made_as_the_laws.Goals as goal

pub returns : goal.returns
returns c = record { makings = makings_of; enterings = enterings_with_room_of; refusals = refusals_of }
