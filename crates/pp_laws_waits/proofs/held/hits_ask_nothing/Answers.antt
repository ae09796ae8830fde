use Rattle.pp_laws_waits.proofs.Laws.{hit_asks_nothing}
use Rattle.pp_laws_waits.proofs.held.hits_ask_nothing.Goals as goal

pub returns : goal.returns
returns c = record { nothing = hit_asks_nothing }
