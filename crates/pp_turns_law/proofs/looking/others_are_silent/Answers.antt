use Rattle.pp_turns_law.proofs.Looked.{all_awake, awake_loud, not_ticked, roused, stays}
use Rattle.pp_turns_law.proofs.looking.others_are_silent.Goals as goal

pub returns : goal.returns
returns c = record { stay = stays; roused = roused; awake = not_ticked; all = all_awake; loud = awake_loud }
