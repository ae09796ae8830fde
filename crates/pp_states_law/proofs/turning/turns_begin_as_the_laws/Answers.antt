use Rattle.pp_states_law.proofs.Begun.{clocks, leaps, opens}
use Rattle.pp_states_law.proofs.Framed.{states}
use Rattle.pp_states_law.proofs.turning.turns_begin_as_the_laws.Goals as goal

pub returns : goal.returns
returns c = record { frames = states; opens = opens; leaps = leaps; clocks = clocks }
