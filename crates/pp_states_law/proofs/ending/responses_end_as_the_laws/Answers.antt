use Rattle.pp_states_law.proofs.Rested.{closes_behind, rests}
use Rattle.pp_states_law.proofs.ending.responses_end_as_the_laws.Goals as goal

pub returns : goal.returns
returns c = record { rests = rests; closes = closes_behind }
