use Rattle.pp_rounds_law.proofs.Astray.{all_stay, decisions_stay, places_stay, rounds_stay}
use Rattle.pp_rounds_law.proofs.staying.lives_stay_astray.Goals as goal

pub returns : goal.returns
returns c = record { places = places_stay; decisions = decisions_stay; all = all_stay; rounds = rounds_stay }
