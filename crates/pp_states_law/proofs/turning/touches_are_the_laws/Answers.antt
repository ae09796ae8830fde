use Rattle.pp_states_law.proofs.Begun.{origin_touches, touches}
use Rattle.pp_states_law.proofs.turning.touches_are_the_laws.Goals as goal

pub returns : goal.returns
returns c = record { touches = touches; origins = origin_touches }
