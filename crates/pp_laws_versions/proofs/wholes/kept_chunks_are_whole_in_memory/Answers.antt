use Rattle.pp_laws_versions.proofs.Laws.{hold_all_or_none}
use Rattle.pp_laws_versions.proofs.wholes.kept_chunks_are_whole_in_memory.Goals as goal

pub returns : goal.returns
returns c = hold_all_or_none
