use Rattle.pp_obeys.proofs.Laws.{done_keep, joined_keep, permitted_keep, standing}
use Rattle.pp_obeys.proofs.keeping.calls_keep_the_law.Goals as goal

pub returns : goal.returns
returns c = record { lawful = standing; permitted = permitted_keep; joined = joined_keep; done = done_keep }
