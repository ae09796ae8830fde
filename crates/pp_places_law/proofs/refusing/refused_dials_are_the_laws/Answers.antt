use Rattle.pp_places_law.proofs.Refused.{answers}
use Rattle.pp_places_law.proofs.Answered.{answers_all}
use Rattle.pp_places_law.proofs.refusing.refused_dials_are_the_laws.Goals as goal

pub returns : goal.returns
returns c = record { answers = answers; all = answers_all }
