use Rattle.pp_states_law.proofs.Asked.{frames}
use Rattle.pp_states_law.proofs.asks.frames_are_the_laws.Goals as goal

pub returns : goal.returns
returns c = record { frames = frames }
