use Rattle.pp_states_law.proofs.Closed.{closes}
use Rattle.pp_states_law.proofs.Lost.{places_lost}
use Rattle.pp_states_law.proofs.losing.losses_are_the_laws.Goals as goal

pub returns : goal.returns
returns c = record { losses = places_lost; lines = closes }
