use Rattle.pp_given_law.proofs.NamesFew.{few_have_room, names_stay}
use Rattle.pp_given_law.proofs.notes.names_stay_few.Goals as goal

pub returns : goal.returns
returns c = record { stay = names_stay; room = few_have_room }
