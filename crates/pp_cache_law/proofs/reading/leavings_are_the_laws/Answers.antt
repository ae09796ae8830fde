use Rattle.pp_cache_law.proofs.Alike.{gone_pins, idle_rows_of, pins_of, room_of, used_of_all, victims_of}
use Rattle.pp_cache_law.proofs.reading.leavings_are_the_laws.Goals as goal

pub returns : goal.returns
returns c = record { room = room_of; idle = idle_rows_of; used = used_of_all; victims = victims_of; pins = pins_of; gone = gone_pins }
