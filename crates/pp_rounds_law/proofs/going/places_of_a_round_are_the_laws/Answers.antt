use Rattle.pp_rounds_law.proofs.Placing.{places_led}
use Rattle.pp_rounds_law.proofs.going.places_of_a_round_are_the_laws.Goals as goal

pub returns : goal.returns
returns c = record { places = places_led }
