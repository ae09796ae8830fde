use Rattle.pp_laws_waits.proofs.Laws.{no_ring}
use Rattle.pp_laws_waits.proofs.waits.no_waits_form_a_ring.Goals as goal

pub returns : goal.returns
returns c = record { goes_on = no_ring }
