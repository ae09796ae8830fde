use Rattle.pp_rounds_law.proofs.Led.{places_lead}
use Rattle.pp_rounds_law.proofs.leading.places_lead_where_dials_are_refused.Goals as goal

pub returns : goal.returns
returns c = record { places = places_lead }
