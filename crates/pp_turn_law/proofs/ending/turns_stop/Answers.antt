use Rattle.pp_turn_law.proofs.FirstOver.{first_stop}
use Rattle.pp_turn_law.proofs.TurnStops.{turns_end}
use Rattle.pp_turn_law.proofs.ending.turns_stop.Goals as goal

pub returns : goal.returns
returns c = record { stops = turns_end; first = first_stop }
