use Rattle.pp_cache_law.proofs.Joined.{joins_of}
use Rattle.pp_cache_law.proofs.Loading.{loads_of}
use Rattle.pp_cache_law.proofs.Mark.{mark_is_enough}
use Rattle.pp_cache_law.proofs.Room.{room_is_enough}
use Rattle.pp_cache_law.proofs.joining.joins_are_the_laws.Goals as goal

pub returns : goal.returns
returns c = record { joins = joins_of; loads = loads_of; room = room_is_enough; mark = mark_is_enough }
