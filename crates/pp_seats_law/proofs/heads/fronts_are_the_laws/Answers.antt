use Rattle.pp_seats_law.proofs.Fronts.{fronts, fronts_read}
use Rattle.pp_seats_law.proofs.heads.fronts_are_the_laws.Goals as goal

pub returns : goal.returns
returns c = record { kept = fronts; read = fronts_read }
