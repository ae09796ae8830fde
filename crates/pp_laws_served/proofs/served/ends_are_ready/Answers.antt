use Rattle.pp_laws_served.proofs.Ready.{ends_ready, places_keep}
use Rattle.pp_laws_served.proofs.Refused.{refusals_keep}
use Rattle.pp_laws_served.proofs.Shuts.{shuts_keep}
use Rattle.pp_laws_served.proofs.served.ends_are_ready.Goals as goal

pub returns : goal.returns
returns c = record { places = places_keep; shuts = shuts_keep; refusals = refusals_keep; ends = ends_ready }
