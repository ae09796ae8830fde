use Rattle.pp_laws_brought.proofs.Laws.{bounds_in_order, data_fit, data_stay}
use Rattle.pp_laws_brought.proofs.brought.no_more_comes_than_is_to_come.Goals as goal

pub returns : goal.returns
returns c = record { bounds = bounds_in_order; room = data_fit; within = data_stay }
