use Rattle.pp_laws_waits.proofs.Laws.{all_placed}
use Rattle.pp_laws_waits.proofs.waits.exchanges_are_placed.Goals as goal

pub returns : goal.returns
returns c = record { placed = all_placed }
