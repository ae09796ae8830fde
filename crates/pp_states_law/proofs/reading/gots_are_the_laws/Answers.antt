use Rattle.pp_states_law.proofs.GotOn.{gots, gots_shown}
use Rattle.pp_states_law.proofs.reading.gots_are_the_laws.Goals as goal

pub returns : goal.returns
returns c = record { unread = gots; gots = gots_shown }
