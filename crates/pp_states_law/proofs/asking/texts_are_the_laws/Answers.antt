use Rattle.pp_states_law.proofs.Texts.{texts}
use Rattle.pp_states_law.proofs.asking.texts_are_the_laws.Goals as goal

pub returns : goal.returns
returns c = record { texts = texts }
